-- When a clause follows from others along hints.
use Rattle.std.specs.Prelude.{◌≡◌, ◌≢◌, ℕ, ◌<◌, ◌==◌, ◌||◌, Bool, true, false, List, [], ◌∷◌, length, slice_index}
use Rattle.pe_graph.specs.Literals.{complement_of}
use Rattle.pe_cnf.specs.Clause.{has, clause_at}
use Rattle.pe_refute.specs.declared.follow.Effect.{Effect}
use Rattle.pe_refute.specs.declared.follow.Effect.TheVariants.{Conflict, Unit as Single, Neither}

-- what a clause's negation makes true
abbrev pub denied : List ℕ → ℕ → Bool
denied clause l = has clause (complement_of l)

-- one more literal is known to be true
abbrev pub learned : ℕ → (ℕ → Bool) → ℕ → Bool
learned new known l = (l == new) || known l

-- each literal is known to be false
abbrev pub IsConflict : (ℕ → Bool) → List ℕ → Type 0
IsConflict known clause = (l : ℕ) → has clause l ≡ true → known (complement_of l) ≡ true

-- the literal has no value yet, and each other one of the clause is known to be false
pub record IsUnit (known : ℕ → Bool) (clause : List ℕ) (l : ℕ) : Type 0 where
  pub inside : has clause l ≡ true
  pub not_true : known l ≡ false
  pub not_false : known (complement_of l) ≡ false
  pub others : (m : ℕ) → has clause m ≡ true → m ≢ l → known (complement_of m) ≡ true

-- along the hints, each gives a new unit and the last a conflict
abbrev pub Propagates : List (List ℕ) → (ℕ → Bool) → List ℕ → Type 0
Propagates clauses known [] = ⊥
Propagates clauses known (h ∷ []) = (h < length clauses) × IsConflict known (clause_at clauses h)
Propagates clauses known (h ∷ i ∷ hints) =
    (h < length clauses) × ((l : ℕ) × IsUnit known (clause_at clauses h) l × Propagates clauses (learned l known) (i ∷ hints))

-- the clause follows along the hints: its negation, propagated along them, ends in a conflict
abbrev pub Follows : List (List ℕ) → List ℕ → List ℕ → Type 0
Follows clauses clause hints = Propagates clauses (denied clause) hints

-- what a clause gives under what is known
abbrev pub Gives : (ℕ → Bool) → List ℕ → Effect → Type 0
Gives known clause Conflict = IsConflict known clause
Gives known clause (Single l) = IsUnit known clause l
Gives known clause Neither = (IsConflict known clause → ⊥) × ((l : ℕ) → IsUnit known clause l → ⊥)

-- the literals that marks and their stamp know to be true
abbrev pub marked : List ℕ → ℕ → ℕ → Bool
marked marks stamp l = slice_index marks l == stamp
