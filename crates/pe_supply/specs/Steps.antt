-- Which steps from row to row a run may take.
use Rattle.std.specs.Prelude.{◌≡◌, ℕ, ◌≤◌, ◌<◌, min, Bool, true, not, ◌||◌, ◌&&◌, ◌==◌, List, [], ◌∷◌, ◌++◌, length, map, filter, Option, Some, None, slice_get, find}
use Rattle.std.specs.List.{list_any, flat_map, range_with_len}
use Rattle.std.specs.Str.{bytes_eq}
use Rattle.pe_base.specs.Names.{has_name}
use Rattle.pe_base.specs.declared.text.Step.{Step}
use Rattle.pe_base.specs.declared.text.Step.TheVariants.{Start, Pair}
use Rattle.pe_supply.specs.declared.supplies.Row.{Row}

-- the name of a row, and none where there is no row
abbrev pub named : Option Row → List ℕ
named None = []
named (Some row) = row.name

abbrev pub name_of : List Row → ℕ → List ℕ
name_of rows q = named (slice_get rows q)

-- a run may start in a row of this name: it is among the names of start rows, or there are none
abbrev pub may_start : List (List ℕ) → List ℕ → Bool
may_start [] name = true
may_start (start ∷ starts) name = has_name (start ∷ starts) name

-- the pair has these names
abbrev pub is_pair : List ℕ → List ℕ → List ℕ × List ℕ → Bool
is_pair before after pair = bytes_eq pair.0 before && bytes_eq pair.1 after

abbrev pub has_pair : List (List ℕ × List ℕ) → List ℕ → List ℕ → Bool
has_pair pairs before after = list_any (is_pair before after) pairs

-- a row of the first name may be followed by one of the second: they are a pair, or there are no pairs
abbrev pub may_follow : List (List ℕ × List ℕ) → List ℕ → List ℕ → Bool
may_follow [] before after = true
may_follow (pair ∷ pairs) before after = has_pair (pair ∷ pairs) before after

-- the step is permitted; staying in a row always is
abbrev pub is_permitted : List Row → List (List ℕ) → List (List ℕ × List ℕ) → Step → Bool
is_permitted rows starts pairs (Start q) = may_start starts (name_of rows q)
is_permitted rows starts pairs (Pair p q) = (p == q) || may_follow pairs (name_of rows p) (name_of rows q)

-- the starts in each of n rows, in their order
abbrev pub every_start : ℕ → List Step
every_start n = map (λ q. Start q) (range_with_len 0 n)

-- the steps from row p to each of n rows, in their order
abbrev pub every_step_from : ℕ → ℕ → List Step
every_step_from n p = map (λ q. Pair p q) (range_with_len 0 n)

-- every step over n rows: the starts, and then the pairs by their first row and then by their second
abbrev pub every_step : ℕ → List Step
every_step n = every_start n ++ flat_map (every_step_from n) (range_with_len 0 n)

-- the permitted ones
abbrev pub permitted : List Row → List (List ℕ) → List (List ℕ × List ℕ) → List Step
permitted rows starts pairs = filter (is_permitted rows starts pairs) (every_step (length rows))

-- some row has the name, and none has it
abbrev pub has_row : List Row → List ℕ → Bool
has_row rows name = list_any (λ row. bytes_eq row.name name) rows

abbrev pub is_absent : List Row → List ℕ → Bool
is_absent rows name = not (has_row rows name)

-- the names of pairs, the first of each first
abbrev pub names_in : List (List ℕ × List ℕ) → List (List ℕ)
names_in pairs = flat_map (λ pair. pair.0 ∷ pair.1 ∷ []) pairs

-- the first name that no row has: of the start rows, then of the pairs
abbrev pub first_absent : List Row → List (List ℕ) → List (List ℕ × List ℕ) → Option (List ℕ)
first_absent rows starts pairs = find (is_absent rows) (starts ++ names_in pairs)

-- a number as a u32 tells it: the greatest where it is larger
abbrev pub told : ℕ → ℕ
told n = min n 4294967295

-- the steps are the answer: every name is there, and they are few
pub record IsSteps (rows : List Row) (starts : List (List ℕ)) (pairs : List (List ℕ × List ℕ)) (steps : List Step) : Type 0 where
  pub there : first_absent rows starts pairs ≡ None
  pub few : length steps ≤ 1024
  pub are : steps ≡ permitted rows starts pairs

-- every name is there, and the steps are too many
pub record AreTooMany (rows : List Row) (starts : List (List ℕ)) (pairs : List (List ℕ × List ℕ)) (count : ℕ) : Type 0 where
  pub there : first_absent rows starts pairs ≡ None
  pub many : 1024 < length (permitted rows starts pairs)
  pub is : count ≡ told (length (permitted rows starts pairs))
