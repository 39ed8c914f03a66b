-- Bits for the corrupt pins of a function, one after the other as the bits of a number.
use Rattle.std.specs.Prelude.{ℕ, ◌/◌, ◌%◌, Bool, true, false, cond, ◌==◌, List, [], ◌∷◌, slice_get, Option, Some, None}
use Rattle.std.specs.List.{filter}
use Rattle.pe_base.specs.declared.value.Val.{Val}
use Rattle.pe_base.specs.declared.value.Val.TheVariants.{Zero, One, Corrupt}
use Rattle.pe_bool_expr.specs.Functions.{Formula, pins}

-- the bit of the choice for a pin, by the pin's place in the list
abbrev pub picked : List ℕ → ℕ → ℕ → Bool
picked [] choice i = false
picked (p ∷ ps) choice i = cond (p == i) (choice % 2 == 1) (picked ps (choice / 2) i)

-- the bit of a value: its own or, where it is corrupt, the chosen one
abbrev pub bit_under : Option Val → Bool → Bool
bit_under (Some Zero) chosen = false
bit_under (Some One) chosen = true
bit_under (Some Corrupt) chosen = chosen
bit_under None chosen = false

abbrev pub value_under : List Val → List ℕ → ℕ → ℕ → Bool
value_under values ps choice i = bit_under (slice_get values i) (picked ps choice i)

abbrev pub is_corrupt : Option Val → Bool
is_corrupt (Some Corrupt) = true
is_corrupt (Some Zero) = false
is_corrupt (Some One) = false
is_corrupt None = false

-- the corrupt pins of a function, each as often as it stands
abbrev pub corrupt_pins : List Val → Formula → List ℕ
corrupt_pins values f = filter (λ i. is_corrupt (slice_get values i)) (pins f)
