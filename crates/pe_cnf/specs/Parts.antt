-- Lists that lie in one flat list, one behind the other.
use Rattle.std.specs.Prelude.{◌≡◌, ℕ, zero, suc, ◌≤◌, List, [], ◌∷◌}
use Rattle.std.specs.List.{slice_range}

-- the parts of a flat list that end at each of the ends
abbrev pub parts_from : List ℕ → ℕ → List ℕ → List (List ℕ)
parts_from flat start [] = []
parts_from flat start (e ∷ ends) = slice_range flat start e ∷ parts_from flat e ends

abbrev pub parts : List ℕ → List ℕ → List (List ℕ)
parts flat ends = parts_from flat 0 ends

-- where a part begins
abbrev pub start_from : ℕ → List ℕ → ℕ → ℕ
start_from start ends zero = start
start_from start [] (suc id) = start
start_from start (e ∷ ends) (suc id) = start_from e ends id

-- the ends rise, and the last is the flat list's
abbrev pub Rise : ℕ → List ℕ → ℕ → Type 0
Rise start [] limit = start ≡ limit
Rise start (e ∷ ends) limit = (start ≤ e) × Rise e ends limit
