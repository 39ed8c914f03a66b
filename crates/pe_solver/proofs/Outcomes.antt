-- What the answers of search, enumeration and table come to.
use Rattle.std.proofs.Common.{ℕ, ◌+◌, ◌^◌, ◌<◌, ◌≤◌, List, length, ap, ◌∙◌, arith}
use Rattle.std.proofs.Math.Pow.{pow_mono}
use Rattle.pe_cnf.specs.ClauseSet.{ClauseSet}
use Rattle.pe_cnf.specs.Gates.{IsGated}
use Rattle.pe_refute.specs.declared.evidence.Derived.{Derived}
use Rattle.pe_solver.specs.Derivation.{IsKept}
use Rattle.pe_refute.proofs.Numbers.{length-all}
use Rattle.pe_cnf.specs.Cone.{is_used}
use Rattle.pe_cnf.proofs.MarkLemmas.{before_at_most}
use Rattle.pe_solver.specs.Answer.{IsMade}

-- the cone has no more leaves than the goal
pub rest_fits : (own leaves kept share budget : ℕ) → own ≤ leaves → kept ≤ share → share + 2 ^ leaves ≤ budget → kept + 2 ^ own ≤ budget
rest_fits own leaves kept share budget a b c = let p : 2 ^ own ≤ 2 ^ leaves = pow_mono a in omega arith

-- there are as many clauses as the walk begins with
pub room_below : (set : ClauseSet) → IsGated set → set.gates + 3 ≤ length set.clauses
room_below set gated = gated.room

pub ids_enough : (set : ClauseSet) (all : List (List ℕ)) (chain : List Derived) → IsGated set → IsKept set.clauses all chain → set.gates + 3 ≤ length all
ids_enough set all chain gated kept =
    let room = gated.room in
    omega (arith, ap length kept.all_is ∙ length-all set.clauses chain)

-- a literal has room for each variable of a cone
pub made_small : (set : ClauseSet) → IsMade set → set.vars < 2 ^ 62
made_small set m =
    let few = m.graph.few in
    let most = before_at_most (is_used m.cone.0 m.cited) (length m.nodes) in
    omega (arith, m.cone.1.1.vars_are)
