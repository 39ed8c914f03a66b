-- What evidence shows.
use Rattle.std.specs.Prelude.{ℕ, List, map}
use Rattle.pe_graph.specs.declared.graph.Node.{Node}
use Rattle.pe_graph.specs.Nodes.{IsGraph}
use Rattle.pe_graph.specs.declared.job.Goal.{Goal}
use Rattle.pe_cnf.specs.declared.equality.Equality.{Equality}
use Rattle.pe_cnf.specs.ClauseSet.{ClauseSet}
use Rattle.pe_cnf.specs.Cone.{IsConeOf, HasGoal, HasCited}
use Rattle.pe_cnf.specs.Clause.{AllBelow}
use Rattle.pe_refute.specs.Chain.{clause_of, IsGoodChain}
use Rattle.pe_refute.specs.Table.{IsTable}
use Rattle.pe_refute.specs.declared.evidence.Evidence.{Evidence}
use Rattle.pe_refute.specs.declared.evidence.Evidence.TheVariants.{Table, Chain}
use Rattle.pe_cnf.specs.Meaning.{AreTrue, IsProved}

-- if the clauses are those of the cone of a goal, with cited equalities that are true, the goal's sides are equal
-- wherever its context is 1
abbrev pub ProvesGoal : ClauseSet → Type 0
ProvesGoal set =
    (nodes : List Node) (goal : Goal) (width : ℕ) (cited : List Equality) →
    IsGraph nodes → HasGoal nodes goal → HasCited nodes cited → IsConeOf nodes goal width cited set →
    AreTrue nodes goal.ctx cited → IsProved nodes goal

-- evidence is good: a table over at most 12 leaves that nothing breaks, or a chain in which each clause follows, and
-- the last is empty
abbrev pub IsGood : ClauseSet → Evidence → Type 0
IsGood set Table = IsTable set
IsGood set (Chain chain) = IsGoodChain set.clauses chain.items

-- the variables of the derived clauses are below the limit
abbrev pub IsWithin : ℕ → Evidence → Type 0
IsWithin limit Table = Unit {0}
IsWithin limit (Chain chain) = AllBelow limit (map clause_of chain.items)
