-- Lists of names, compared as bytes.
use Rattle.std.specs.Prelude.{◌≡◌, ℕ, ◌+◌, Bool, true, cond, not, ◌&&◌, List, [], ◌∷◌}
use Rattle.std.specs.List.{list_any, list_all}
use Rattle.std.specs.Str.{bytes_eq}

-- the name is one of these
abbrev pub has_name : List (List ℕ) → List ℕ → Bool
has_name names name = list_any (λ other. bytes_eq other name) names

-- no two are the same
abbrev pub are_distinct : List (List ℕ) → Bool
are_distinct [] = true
are_distinct (name ∷ names) = not (has_name names name) && are_distinct names

-- each of some names is one of these
abbrev pub all_among : List (List ℕ) → List (List ℕ) → Bool
all_among names some = list_all (has_name names) some

-- the first place of the name, or how many names there are
abbrev pub place_of : List (List ℕ) → List ℕ → ℕ
place_of [] name = 0
place_of (other ∷ names) name = cond (bytes_eq other name) 0 (1 + place_of names name)

-- both lists have the same names, in whatever order and however often
abbrev pub HasSameNames : List (List ℕ) → List (List ℕ) → Type 0
HasSameNames names others = (name : List ℕ) → has_name names name ≡ has_name others name
