-- What an answer says.
use Rattle.std.specs.Prelude.{ℕ, ◌<◌, ◌≤◌, Bool, List, length}
use Rattle.pe_graph.specs.declared.graph.Node.{Node}
use Rattle.pe_graph.specs.declared.job.Goal.{Goal}
use Rattle.pe_graph.specs.Nodes.{IsGraph}
use Rattle.pe_cnf.specs.declared.equality.Equality.{Equality}
use Rattle.pe_cnf.specs.Clause.{AllBelow}
use Rattle.pe_cnf.specs.ClauseSet.{ClauseSet}
use Rattle.pe_cnf.specs.Cone.{IsConeOf, HasGoal, HasCited, HasLeaves}
use Rattle.pe_refute.specs.Chain.{IsGoodChain}
use Rattle.pe_refute.specs.declared.evidence.Derived.{Derived}
use Rattle.pe_refute.specs.declared.evidence.Evidence.{Evidence}
use Rattle.pe_refute.specs.declared.evidence.Evidence.TheVariants.{Table, Chain}
use Rattle.pe_solver.specs.Derivation.{IsKept, IsSpent, NoneEmpty}
use Rattle.pe_solver.specs.Sample.{IsSample}
use Rattle.pe_solver.specs.declared.decision.Decision.{Decision}
use Rattle.pe_solver.specs.declared.decision.Decision.TheVariants.{Refuted, Sample, Spent}
use Rattle.pe_solver.specs.declared.outcome.Searched.{Searched}
use Rattle.pe_solver.specs.declared.outcome.Searched.TheVariants.{Ended, Open}

-- the clauses are those of the cone of some goal of some graph
pub record IsMade (set : ClauseSet) : Type 0 where
  pub nodes : List Node
  pub goal : Goal
  pub width : ℕ
  pub cited : List Equality
  pub graph : IsGraph nodes
  pub has_goal : HasGoal nodes goal
  pub has_cited : HasCited nodes cited
  pub has_leaves : HasLeaves nodes width
  pub cone : IsConeOf nodes goal width cited set

-- a fact of the evidence, where the answer is that
abbrev pub IfRefuted : Decision → (Evidence → Type 0) → Type 0
IfRefuted (Refuted evidence) P = P evidence
IfRefuted (Sample values) P = Unit {0}
IfRefuted (Spent chain) P = Unit {0}

-- of the sample
abbrev pub IfSample : Decision → (List Bool → Type 0) → Type 0
IfSample (Refuted evidence) P = Unit {0}
IfSample (Sample values) P = P values.items
IfSample (Spent chain) P = Unit {0}

-- of the derivation that spent the budget
abbrev pub IfSpent : Decision → (List Derived → Type 0) → Type 0
IfSpent (Refuted evidence) P = Unit {0}
IfSpent (Sample values) P = Unit {0}
IfSpent (Spent chain) P = P chain.items

-- a table where there are at most 12 leaves, else a chain of 1 to budget clauses
abbrev pub HasForm : ℕ → ℕ → Evidence → Type 0
HasForm leaves budget Table = leaves ≤ 12
HasForm leaves budget (Chain chain) = (12 < leaves) × (0 < length chain.items) × (length chain.items ≤ budget)

-- a good chain within the budget
abbrev pub IsChainWithin : ClauseSet → ℕ → Evidence → Type 0
IsChainWithin set budget Table = ⊥
IsChainWithin set budget (Chain chain) = IsGoodChain set.clauses chain.items × (length chain.items ≤ budget)

-- what search and enumeration answer
abbrev pub IsAnswer : ClauseSet → ℕ → Decision → Type 0
IsAnswer set budget (Refuted evidence) = IsChainWithin set budget evidence
IsAnswer set budget (Sample values) = IsSample set values.items
IsAnswer set budget (Spent chain) = IsSpent set.clauses budget chain.items

-- it is not spent
abbrev pub IsDecided : Decision → Type 0
IsDecided (Refuted evidence) = Unit {0}
IsDecided (Sample values) = Unit {0}
IsDecided (Spent chain) = ⊥

-- the search has an answer within its share, or leaves what it kept
abbrev pub IsSearched : ClauseSet → ℕ → Searched → Type 0
IsSearched set share (Ended decision) = IsAnswer set share decision × IsDecided decision
IsSearched set share (Open all chain scratch) =
    IsKept set.clauses all chain.items × NoneEmpty chain.items × AllBelow scratch.vars all × (set.vars ≤ scratch.vars) × (length chain.items ≤ share)
