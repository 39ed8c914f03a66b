-- Clauses that follow with nothing idle.
use Rattle.std.specs.Prelude.{◌≡◌, ℕ, ◌<◌, ◌||◌, ◌&&◌, Bool, true, false, List, [], ◌∷◌, length, slice_index}
use Rattle.std.specs.List.{remove}
use Rattle.pe_graph.specs.Literals.{complement_of}
use Rattle.pe_cnf.specs.Clause.{has, clause_at}
use Rattle.pe_refute.specs.Follow.{learned, IsConflict, IsUnit, Follows}
use Rattle.pe_solver.specs.Walk.{after, GivesUnits}
use Rattle.pe_solver.specs.declared.finding.Trace.{Trace}
use Rattle.pe_solver.specs.declared.finding.Finding.{Finding}

-- the clause follows along its hints, and with any one literal or any one hint left out it does not
pub record IsLean (clauses : List (List ℕ)) (clause hints : List ℕ) : Type 0 where
  pub follows : Follows clauses clause hints
  pub no_literal : (i : ℕ) → i < length clause → Follows clauses (remove clause i) hints → ⊥
  pub no_hint : (i : ℕ) → i < length hints → Follows clauses clause (remove hints i) → ⊥

-- each literal of the one clause is in the other
abbrev pub IsPart : List ℕ → List ℕ → Type 0
IsPart c d = (l : ℕ) → has c l ≡ true → has d l ≡ true

-- a clause of the hints has the literal
abbrev pub mentions : List (List ℕ) → List ℕ → ℕ → Bool
mentions clauses [] l = false
mentions clauses (h ∷ hints) l = has (clause_at clauses h) l || mentions clauses hints l

-- the steps have a unit each, and name clauses
pub record HasShape (clauses : List (List ℕ)) (t : Trace) : Type 0 where
  pub pairs : length t.hints.items ≡ length t.units.items
  pub below : (i : ℕ) → i < length t.hints.items → slice_index t.hints.items i < length clauses
  pub last_below : t.last < length clauses

-- the trace of a walk from what is known to a conflict
pub record IsTrace (clauses : List (List ℕ)) (known : ℕ → Bool) (t : Trace) : Type 0 where
  pub units : GivesUnits clauses known t.hints.items t.units.items
  pub conflict : IsConflict (after t.units.items known) (clause_at clauses t.last)

-- a walk to a conflict in which each unit is used by a later hint
abbrev pub Tight : List (List ℕ) → (ℕ → Bool) → List ℕ → Type 0
Tight clauses known [] = ⊥
Tight clauses known (h ∷ []) = (h < length clauses) × IsConflict known (clause_at clauses h)
Tight clauses known (h ∷ i ∷ hints) =
    (h < length clauses) ×
    ((l : ℕ) × IsUnit known (clause_at clauses h) l × (mentions clauses (i ∷ hints) (complement_of l) ≡ true) × Tight clauses (learned l known) (i ∷ hints))

-- no literal stands twice
abbrev pub IsDistinct : List ℕ → Type 0
IsDistinct [] = Unit {0}
IsDistinct (x ∷ xs) = (has xs x ≡ false) × IsDistinct xs

-- the literals are those of the clause that are known, each once
pub record IsKnownPart (known : ℕ → Bool) (clause part : List ℕ) : Type 0 where
  pub same : (l : ℕ) → has part l ≡ (has clause l && known l)
  pub distinct : IsDistinct part

-- what is left of a clause that follows: it is lean, and has no other literals
pub record IsRefined (clauses : List (List ℕ)) (clause : List ℕ) (f : Finding) : Type 0 where
  pub lean : IsLean clauses f.clause.items f.hints.items
  pub part : IsPart f.clause.items clause
