use Rattle.std.proofs.Common.{subst}
use Rattle.pe_graph.specs.declared.job.Job.{Job}
use Rattle.pe_cnf.specs.Cone.{HasGoal}
use Rattle.pe_refute.specs.Entries.{goal_of, AreSeenIn}
use Rattle.pe_evidence_tests.proofs.refutations.told.Goals as goal

pub checked-requires-clause-entry : goal.checked-requires-clause-entry
checked-requires-clause-entry c =
    subst (λ (job : Job). HasGoal job.graph (goal_of 0 c.args.entry.eq)) c.deref.ensures (c.is_checkable.ensures.entry c.if-not-is_checkable.false)

pub checked-requires-clause-seen : goal.checked-requires-clause-seen
checked-requires-clause-seen c =
    subst (λ (job : Job). AreSeenIn job.graph c.args.seen.now) c.deref.ensures (c.is_checkable.ensures.seen c.if-not-is_checkable.false)
