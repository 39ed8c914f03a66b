use Rattle.std.proofs.Common.{arith}
use Rattle.pe_solver.proofs.Outcomes.{rest_fits}
use Rattle.pe_solver.proofs.outcome.by_search.Goals as goal

pub returns-clause-decided : goal.returns-clause-decided
returns-clause-decided c = λ h.
    let rest = c.share-share.ensures.rest h in
    let left = rw c.in-Open.is at c.in_ok-decision.ensures in
    let few = c.requires.few in
    let count = c.in_ok-own.ensures.named.count in
    c.in_ok-decision-in-Open.ensures.decided (rw c.deref-in-Open.ensures.value (rest_fits _ c.args.leaves _ _ c.args.budget (omega arith) left.4 rest))
