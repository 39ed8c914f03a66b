-- Where evidence is wrong.
use Rattle.std.specs.Prelude.{◌≡◌, ℕ, ◌+◌, ◌^◌, ◌<◌, ◌≤◌, ◌⊎◌, Bool, IsTrue, is_some, is_none, List, length, take, slice_index_or}
use Rattle.pe_cnf.specs.Clause.{Satisfies}
use Rattle.pe_cnf.specs.ClauseSet.{ClauseSet}
use Rattle.pe_refute.specs.Follow.{Follows}
use Rattle.pe_refute.specs.Chain.{clause_of, hints_of, all_clauses, DerivedUpTo, EndsEmpty}
use Rattle.pe_refute.specs.Table.{Assigns}
use Rattle.pe_refute.specs.declared.evidence.Derived.{Derived}
use Rattle.pe_refute.specs.declared.evidence.Evidence.{Evidence}
use Rattle.pe_refute.specs.declared.evidence.Evidence.TheVariants.{Table, Chain}

-- the clause of this step does not follow from those before it
abbrev pub IsNotDerived : List (List ℕ) → List Derived → ℕ → Type 0
IsNotDerived given chain step =
    (d : Derived) → Follows (all_clauses given (take step chain)) (clause_of (slice_index_or chain step d)) (hints_of (slice_index_or chain step d)) → ⊥

-- the clauses before this step follow; its own does not, or it is the chain's length and the last clause is not empty
pub record IsChainFault (given : List (List ℕ)) (chain : List Derived) (step : ℕ) : Type 0 where
  pub before : DerivedUpTo given chain step
  pub wrong : ((step < length chain) × IsNotDerived given chain step) ⊎ ((step ≡ length chain) × (EndsEmpty chain → ⊥))

-- the context is 1 and the sides differ in the assignment of this number
abbrev pub Breaks : ClauseSet → ℕ → Type 0
Breaks set step = (w : ℕ → Bool) × Assigns set.leaves step w × Satisfies w (take (set.gates + 3) set.clauses)

-- the assignment of this number is the first that breaks a table over at most 12 leaves
pub record IsFirstBreak (set : ClauseSet) (step : ℕ) : Type 0 where
  pub goal_is : IsTrue (is_some set.goal)
  pub few : length set.leaves ≤ 12
  pub within : step < 2 ^ length set.leaves
  pub breaks : Breaks set step
  pub before : (k : ℕ) → k < step → Breaks set k → ⊥

-- there is no goal, or more than 12 leaves, and the step is 4,096; or the step is the first assignment that breaks the
-- table
abbrev pub IsTableFault : ClauseSet → ℕ → Type 0
IsTableFault set step = ((IsTrue (is_none set.goal) ⊎ (12 < length set.leaves)) × (step ≡ 4096)) ⊎ IsFirstBreak set step

-- evidence is wrong, and first at this step
abbrev pub IsWrongAt : ClauseSet → Evidence → ℕ → Type 0
IsWrongAt set Table step = IsTableFault set step
IsWrongAt set (Chain chain) step = IsChainFault set.clauses chain.items step
