use Rattle.std.proofs.Common.{sym, subst}
use Rattle.pe_graph.specs.declared.job.Job.{Job}
use Rattle.pe_refute.specs.Entries.{AreSeenIn}
use Rattle.pe_refute.proofs.admit.checked.Goals as goal

pub examine-requires-clause-seen : goal.examine-requires-clause-seen
examine-requires-clause-seen c = subst (λ (job : Job). AreSeenIn job.graph c.args.seen.now) (sym c.deref.ensures) c.requires.seen
