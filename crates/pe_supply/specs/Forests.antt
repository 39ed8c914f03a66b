-- Forests over places, which name steps of the code that labels names. A list has for each place the one above it, a root stands above itself, and places under one root are one supply.
use Rattle.std.specs.Prelude.{ℕ, zero, suc, ◌<◌, ◌≤◌, List, length, map, slice_index}
use Rattle.std.specs.List.{range_with_len}

-- no place has a later one above it, so each way up ends
abbrev pub IsForest : List ℕ → Type 0
IsForest above = (k : ℕ) → k < length above → slice_index above k ≤ k

-- the place so many steps up
abbrev pub climb : List ℕ → ℕ → ℕ → ℕ
climb above zero k = k
climb above (suc n) k = climb above n (slice_index above k)

-- the root over a place: no way up has more steps than there are places
abbrev pub root_of : List ℕ → ℕ → ℕ
root_of above k = climb above (length above) k

-- the root over each place
abbrev pub roots_of : List ℕ → List ℕ
roots_of above = map (root_of above) (range_with_len 0 (length above))
