-- The values 0, 1 and corrupt; which value may stand for another; the exact extension of a boolean function.
use Rattle.std.specs.Prelude.{◌≡◌, ◌⊎◌, Bool, true, false, List, [], ◌∷◌}
use Rattle.std.specs.List.{AllZip}
use Rattle.pe_base.specs.declared.value.Val.{Val}
use Rattle.pe_base.specs.declared.value.Val.TheVariants.{Zero, One, Corrupt}

-- the netlist's value n may stand for the RTL's value r: r is corrupt, or n is r
abbrev pub Refines : Val → Val → Type 0
Refines n r = (r ≡ Corrupt) ⊎ (n ≡ r)

-- the value of a known bit
abbrev pub known_of : Bool → Val
known_of true = One
known_of false = Zero

-- the common value, if it is known
abbrev pub merge_of : Val → Val → Val
merge_of Zero Zero = Zero
merge_of One One = One
merge_of _ _ = Corrupt

-- known bits in the place of values: each value is its bit or corrupt
abbrev pub IsReplacement : List Val → List Bool → Type 0
IsReplacement = AllZip (λ v b. Refines (known_of b) v)

-- the first where the control is 0, the second where it is 1, their merge where it is corrupt
abbrev pub pick_of : Val → Val → Val → Val
pick_of Zero x y = x
pick_of One x y = y
pick_of Corrupt x y = merge_of x y

-- the merge of what g gives at every replacement
abbrev pub merge_over : List Val → (List Bool → Val) → Val
merge_over [] g = g []
merge_over (v ∷ vs) g = pick_of v (merge_over vs (λ r. g (false ∷ r))) (merge_over vs (λ r. g (true ∷ r)))

-- the exact extension of a boolean function to values
abbrev pub exact_extension : (List Bool → Bool) → List Val → Val
exact_extension f vs = merge_over vs (λ r. known_of (f r))
