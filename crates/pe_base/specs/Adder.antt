-- Addition and comparison of two bits.
use Rattle.std.specs.Prelude.{Bool, true, false, not}

-- the sum of two bits and what was carried, and what is carried on
abbrev pub sum_bit : Bool → Bool → Bool → Bool
sum_bit true true carry = carry
sum_bit true false carry = not carry
sum_bit false true carry = not carry
sum_bit false false carry = carry

abbrev pub carry_bit : Bool → Bool → Bool → Bool
carry_bit true true carry = true
carry_bit true false carry = carry
carry_bit false true carry = carry
carry_bit false false carry = false

-- whether the first is below the second, where the bits under them say less
abbrev pub less_bit : Bool → Bool → Bool → Bool
less_bit true true less = less
less_bit true false less = false
less_bit false true less = true
less_bit false false less = less
