-- Lists of names with values, of which a look-up finds the first.
use Rattle.std.specs.Prelude.{◌≡◌, ℕ, cond, List, [], ◌∷◌, length, Option, Some, None}
use Rattle.std.specs.List.{zip}
use Rattle.std.specs.Str.{bytes_eq}

-- the value of the first pair of the name
abbrev pub value_of : {A : Type 0} → List (List ℕ × A) → List ℕ → Option A
value_of [] name = None
value_of (p ∷ ps) name = cond (bytes_eq p.0 name) (Some p.1) (value_of ps name)

-- of each name the first value of the pairs stands at its place in the index
pub record AreFirsts {A : Type 0} (pairs : List (List ℕ × A)) (index : List (List ℕ)) (values : List A) : Type 0 where
  pub beside : length index ≡ length values
  pub first : (name : List ℕ) → value_of (zip index values) name ≡ value_of pairs name
