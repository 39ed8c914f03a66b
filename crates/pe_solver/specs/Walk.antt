-- Walks along hints, from what is known.
use Rattle.std.specs.Prelude.{◌≡◌, ℕ, ◌<◌, ◌≤◌, ◌⊎◌, Bool, true, List, [], ◌∷◌, length, take, slice_index}
use Rattle.pe_cnf.specs.Clause.{clause_at}
use Rattle.pe_refute.specs.Follow.{learned, IsConflict, IsUnit, Gives}
use Rattle.pe_refute.specs.declared.follow.Effect.TheVariants.{Neither}

-- what is known in the one is known in the other
abbrev pub Within : (ℕ → Bool) → (ℕ → Bool) → Type 0
Within j k = (l : ℕ) → j l ≡ true → k l ≡ true

-- along the hints, past those that give nothing new, there is a conflict
abbrev pub Leads : List (List ℕ) → (ℕ → Bool) → List ℕ → Type 0
Leads clauses known [] = ⊥
Leads clauses known (h ∷ hints) =
    (h < length clauses) ×
    (IsConflict known (clause_at clauses h) ⊎
    (((l : ℕ) × IsUnit known (clause_at clauses h) l × Leads clauses (learned l known) hints) ⊎
    (Gives known (clause_at clauses h) Neither × Leads clauses known hints)))

-- the walk along the hints meets no conflict, past those that name no clause, and ends with this known
abbrev pub Walks : List (List ℕ) → (ℕ → Bool) → List ℕ → (ℕ → Bool) → Type 0
Walks clauses known [] end = (l : ℕ) → end l ≡ known l
Walks clauses known (h ∷ hints) end =
    ((length clauses ≤ h) × Walks clauses known hints end) ⊎
    ((Gives known (clause_at clauses h) Neither × Walks clauses known hints end) ⊎
    ((l : ℕ) × IsUnit known (clause_at clauses h) l × Walks clauses (learned l known) hints end))

-- what is known after the units
abbrev pub after : List ℕ → (ℕ → Bool) → ℕ → Bool
after [] known = known
after (u ∷ units) known = after units (learned u known)

-- each of the hints gives its unit
abbrev pub GivesUnits : List (List ℕ) → (ℕ → Bool) → List ℕ → List ℕ → Type 0
GivesUnits clauses known hints units =
    (i : ℕ) → i < length units → IsUnit (after (take i units) known) (clause_at clauses (slice_index hints i)) (slice_index units i)

-- the hints begin with the numbers below n, in order
pub record BeginsWithAll (n : ℕ) (hints : List ℕ) : Type 0 where
  pub enough : n ≤ length hints
  pub each : (i : ℕ) → i < n → slice_index hints i ≡ i
