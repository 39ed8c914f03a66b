-- The bitwise operators of Verilog on values (IEEE 1364): a known operand that decides does so beside a corrupt one.
use Rattle.pe_base.specs.declared.value.Val.{Val}
use Rattle.pe_base.specs.declared.value.Val.TheVariants.{Zero, One, Corrupt}

-- ~a
abbrev pub not_of : Val → Val
not_of Zero = One
not_of One = Zero
not_of Corrupt = Corrupt

-- a & b
abbrev pub and_of : Val → Val → Val
and_of Zero _ = Zero
and_of _ Zero = Zero
and_of One One = One
and_of _ _ = Corrupt

-- a | b
abbrev pub or_of : Val → Val → Val
or_of One _ = One
or_of _ One = One
or_of Zero Zero = Zero
or_of _ _ = Corrupt

-- a ^ b
abbrev pub xor_of : Val → Val → Val
xor_of Zero b = b
xor_of One b = not_of b
xor_of Corrupt _ = Corrupt

-- a ~^ b
abbrev pub xnor_of : Val → Val → Val
xnor_of a b = not_of (xor_of a b)
