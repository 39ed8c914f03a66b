-- Which names are one supply, and the numbers of supplies.
use Rattle.std.specs.Prelude.{◌≡◌, ◌↔◌, ◌⊎◌, ℕ, suc, ◌+◌, ◌<◌, ◌==◌, max, cond, List, [], ◌∷◌, ◌++◌, length, map, slice_index, slice_index_or, Contains}
use Rattle.std.specs.List.{range_with_len}
use Rattle.std.specs.Str.{bytes_eq}
use Rattle.pe_base.specs.Names.{has_name}

-- a list of names, and of further names those that are not there yet, in their order
abbrev pub with_new : List (List ℕ) → List (List ℕ) → List (List ℕ)
with_new names [] = names
with_new names (name ∷ more) = with_new (cond (has_name names name) names (names ++ name ∷ [])) more

-- each name of the list once
abbrev pub distinct : List (List ℕ) → List (List ℕ)
distinct names = with_new [] names

-- one of the two names is tied to the other
abbrev pub AreTied : List (List ℕ × List ℕ) → List ℕ → List ℕ → Type 0
AreTied ties a b = Contains ties (a, b) ⊎ Contains ties (b, a)

-- from a name on each name of the list is tied to the one before it, and the last is the other
abbrev pub IsChain : List (List ℕ × List ℕ) → List ℕ → List (List ℕ) → List ℕ → Type 0
IsChain ties a [] b = a ≡ b
IsChain ties a (c ∷ cs) b = AreTied ties a c × IsChain ties c cs b

-- names of one supply: a chain of ties leads from one to the other
pub record AreOne (ties : List (List ℕ × List ℕ)) (a b : List ℕ) : Type 0 where
  pub chain : List (List ℕ)
  pub leads : IsChain ties a chain b

abbrev pub names_in : List (List ℕ × ℕ) → List (List ℕ)
names_in names = map (λ n. n.0) names

abbrev pub numbers_in : List (List ℕ × ℕ) → List ℕ
numbers_in names = map (λ n. n.1) names

-- the name and the number at a place
abbrev pub name_at : List (List ℕ × ℕ) → ℕ → List ℕ
name_at names k = slice_index_or (names_in names) k []

abbrev pub number_at : List (List ℕ × ℕ) → ℕ → ℕ
number_at names k = slice_index (numbers_in names) k

-- the names that are made, tied like this, with the numbers of their supplies, which count from 0 by their first names
pub record AreNumbered (made : List (List ℕ)) (ties : List (List ℕ × List ℕ)) (names : List (List ℕ × ℕ)) : Type 0 where
  -- each name stands there once, in the order in which they are first made
  pub once : names_in names ≡ distinct made
  -- two names have one number exactly where they are one supply
  pub together : (j k : ℕ) → j < length names → k < length names → (number_at names j ≡ number_at names k) ↔ AreOne ties (name_at names j) (name_at names k)
  -- before each number but 0 stands the one below it
  pub counted : (k n : ℕ) → k < length names → number_at names k ≡ suc n → (j : ℕ) × (j < k) × (number_at names j ≡ n)

-- the supply of a name
abbrev pub number_of : List (List ℕ × ℕ) → List ℕ → ℕ
number_of [] name = 0
number_of (n ∷ ns) name = cond (bytes_eq n.0 name) n.1 (number_of ns name)

-- how many supplies there are: one more than the greatest number
abbrev pub supply_count : List (List ℕ × ℕ) → ℕ
supply_count [] = 0
supply_count (n ∷ ns) = max (n.1 + 1) (supply_count ns)

-- the supplies by rising numbers
abbrev pub supplies_in : List (List ℕ × ℕ) → List ℕ
supplies_in names = range_with_len 0 (supply_count names)

-- the first name of a supply
abbrev pub first_name : List (List ℕ × ℕ) → ℕ → List ℕ
first_name [] i = []
first_name (n ∷ ns) i = cond (n.1 == i) n.0 (first_name ns i)
