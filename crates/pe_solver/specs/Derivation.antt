-- Derivations: clauses that were kept, each of which follows from those before it with nothing idle.
use Rattle.std.specs.Prelude.{◌≡◌, ℕ, ◌+◌, ◌<◌, ◌++◌, List, length, take, slice_index_or}
use Rattle.pe_cnf.specs.Clause.{has, clause_at}
use Rattle.pe_refute.specs.Chain.{clause_of, hints_of, all_clauses, EndsEmpty}
use Rattle.pe_refute.specs.declared.evidence.Derived.{Derived}
use Rattle.pe_solver.specs.Lean.{IsLean, IsPart}
use Rattle.pe_solver.specs.declared.lessons.Kept.{Kept}
use Rattle.pe_solver.specs.declared.lessons.Kept.TheVariants.{New, Empty, Old, Wrong}

-- equal as sets of literals
abbrev pub AreSame : List ℕ → List ℕ → Type 0
AreSame c d = (l : ℕ) → has c l ≡ has d l

-- each clause of the derivation is lean over those before it
abbrev pub AreLean : List (List ℕ) → List Derived → Type 0
AreLean given chain =
    (k : ℕ) (d : Derived) → k < length chain →
    IsLean (all_clauses given (take k chain)) (clause_of (slice_index_or chain k d)) (hints_of (slice_index_or chain k d))

-- and none is equal to a given one, or to one before it
abbrev pub AreNew : List (List ℕ) → List Derived → Type 0
AreNew given chain =
    (k id : ℕ) (d : Derived) → k < length chain → id < length given + k →
    AreSame (clause_at (all_clauses given chain) id) (clause_of (slice_index_or chain k d)) → ⊥

-- no clause of it is empty
abbrev pub NoneEmpty : List Derived → Type 0
NoneEmpty chain = (k : ℕ) (d : Derived) → k < length chain → 0 < length (clause_of (slice_index_or chain k d))

-- a spent budget: so many clauses, each lean, none empty, and each new
pub record IsSpent (given : List (List ℕ)) (budget : ℕ) (chain : List Derived) : Type 0 where
  pub count : length chain ≡ budget
  pub lean : AreLean given chain
  pub none_empty : NoneEmpty chain
  pub new : AreNew given chain

-- what is kept: the clauses are those given and those derived, each lean and new
pub record IsKept (given all : List (List ℕ)) (chain : List Derived) : Type 0 where
  pub all_is : all ≡ all_clauses given chain
  pub lean : AreLean given chain
  pub new : (k id : ℕ) (d : Derived) → k < length chain → id < length given + k →
      AreSame (clause_at all id) (clause_of (slice_index_or chain k d)) → ⊥

-- nothing is lost, and the numbers stay
abbrev pub IsGrown : List (List ℕ) → List (List ℕ) → Type 0
IsGrown old new = (more : List (List ℕ)) × (new ≡ old ++ more)

-- what a lesson does to the chain
abbrev pub IsStep : List (List ℕ) → List Derived → List Derived → Kept → Type 0
IsStep all was now New = (length now ≡ length was + 1) × (NoneEmpty was → NoneEmpty now)
IsStep all was now Empty = (length now ≡ length was + 1) × EndsEmpty now
IsStep all was now (Old id) = (now ≡ was) × (id < length all)
IsStep all was now Wrong = now ≡ was

-- the clause has a number, under which no more than its literals stand
abbrev pub IsNumbered : List (List ℕ) → List (List ℕ) → List ℕ → Kept → Type 0
IsNumbered old new clause New = (length new ≡ length old + 1) × IsGrown old new × IsPart (clause_at new (length old)) clause
IsNumbered old new clause Empty = IsGrown old new
IsNumbered old new clause (Old id) = (new ≡ old) × (id < length old) × IsPart (clause_at old id) clause
IsNumbered old new clause Wrong = new ≡ old
