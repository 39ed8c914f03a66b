-- Labels of names: those of one supply have one label.
use Rattle.std.specs.Prelude.{◌≡◌, ℕ, suc, ◌<◌, ◌≤◌, ◌==◌, max, min, cond, List, [], length, map, slice_index, slice_index_or, Contains}
use Rattle.pe_base.specs.Names.{place_of}
use Rattle.pe_supply.specs.Numbers.{AreOne}

-- a label, where one is replaced by another
abbrev pub relabel : ℕ → ℕ → ℕ → ℕ
relabel from to label = cond (label == from) to label

-- two labels made one, the smaller
abbrev pub with_joined : List ℕ → ℕ → ℕ → List ℕ
with_joined labels x y = map (relabel (max x y) (min x y)) labels

-- each name stands first where it stands
abbrev pub AreApart : List (List ℕ) → Type 0
AreApart names = (k : ℕ) → k < length names → place_of names (slice_index_or names k []) ≡ k

-- a label is the first place that has it
pub record AreFirst (labels : List ℕ) : Type 0 where
  pub before : (k : ℕ) → k < length labels → slice_index labels k ≤ k
  pub own : (k : ℕ) → k < length labels → slice_index labels (slice_index labels k) ≡ slice_index labels k

-- names have one label where they are tied, and only where they are one supply
pub record AreLabelled (names : List (List ℕ)) (ties : List (List ℕ × List ℕ)) (labels : List ℕ) : Type 0 where
  pub size : length labels ≡ length names
  pub first : AreFirst labels
  pub tied : (a b : List ℕ) → Contains ties (a, b) → slice_index labels (place_of names a) ≡ slice_index labels (place_of names b)
  pub one : (j k : ℕ) → j < length names → k < length names → slice_index labels j ≡ slice_index labels k → AreOne ties (slice_index_or names j []) (slice_index_or names k [])

-- the first n places have numbers: one number where one label is, rising from one first place to the next, and none left out
pub record AreCounted (labels : List ℕ) (n : ℕ) (numbers : List ℕ) : Type 0 where
  pub size : length numbers ≡ n
  pub same : (k : ℕ) → k < n → slice_index numbers k ≡ slice_index numbers (slice_index labels k)
  pub rising : (j k : ℕ) → j < k → k < n → slice_index labels j ≡ j → slice_index labels k ≡ k → slice_index numbers j < slice_index numbers k
  pub counted : (k m : ℕ) → k < n → slice_index numbers k ≡ suc m → (j : ℕ) × (j < k) × (slice_index numbers j ≡ m)
