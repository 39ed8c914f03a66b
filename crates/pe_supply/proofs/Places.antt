-- First places of numbers.
use Rattle.std.proofs.Common.{◌≡◌, ℕ, suc, ◌+◌, ◌<◌, ◌≤◌, Bool, true, false, cond, List, [], ◌∷◌, ◌++◌, length, slice_index, refl, ap, arith}
use Rattle.std.specs.Prelude.{◌==◌}
use Rattle.std.proofs.lemmas.Bool.Decides.{nat_tests}
use Rattle.pe_supply.specs.WellFormed.{place}

-- a place is in the list or at its end
pub place_within : (xs : List ℕ) (n : ℕ) → place xs n ≤ length xs
place_within [] n = omega arith
place_within (x ∷ xs) n = at (x == n) (place_within xs n)
  where
    at : (b : Bool) → place xs n ≤ length xs → cond b 0 (1 + place xs n) ≤ suc (length xs)
    at true h = omega arith
    at false h = omega arith

eq_of : (a b : ℕ) → (a == b) ≡ true → a ≡ b
eq_of a b e = grind (arith, nat_tests)

-- what stands at a first place
pub place_is : (xs : List ℕ) (n : ℕ) → place xs n < length xs → slice_index xs (place xs n) ≡ n
place_is [] n h = absurd (omega arith)
place_is (x ∷ xs) n h = at (x == n) refl (place_is xs n) h
  where
    at : (b : Bool) → (x == n) ≡ b → (place xs n < length xs → slice_index xs (place xs n) ≡ n) → cond b 0 (1 + place xs n) < suc (length xs) → slice_index (x ∷ xs) (cond b 0 (1 + place xs n)) ≡ n
    at true e more k = eq_of x n e
    at false e more k =
        let inside : place xs n < length xs = omega arith in
        let next : 1 + place xs n ≡ suc (place xs n) = omega arith in
        rw next (more inside)

-- the place among two lists
pub place_left : (xs ys : List ℕ) (n : ℕ) → place xs n < length xs → place (xs ++ ys) n ≡ place xs n
place_left [] ys n h = absurd (omega arith)
place_left (x ∷ xs) ys n h = at (x == n) (place_left xs ys n) h
  where
    at : (b : Bool) → (place xs n < length xs → place (xs ++ ys) n ≡ place xs n) → cond b 0 (1 + place xs n) < suc (length xs) → cond b 0 (1 + place (xs ++ ys) n) ≡ cond b 0 (1 + place xs n)
    at true more k = refl
    at false more k = let inside : place xs n < length xs = omega arith in ap (λ m. 1 + m) (more inside)

pub place_right : (xs ys : List ℕ) (n : ℕ) → length xs ≤ place xs n → place (xs ++ ys) n ≡ length xs + place ys n
place_right [] ys n h = omega arith
place_right (x ∷ xs) ys n h = at (x == n) (place_right xs ys n) h
  where
    at : (b : Bool) → (length xs ≤ place xs n → place (xs ++ ys) n ≡ length xs + place ys n) → suc (length xs) ≤ cond b 0 (1 + place xs n) → cond b 0 (1 + place (xs ++ ys) n) ≡ suc (length xs) + place ys n
    at true more k = absurd (omega arith)
    at false more k = let outside : length xs ≤ place xs n = omega arith in omega (arith, more outside)
