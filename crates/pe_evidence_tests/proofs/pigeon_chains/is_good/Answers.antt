use Rattle.std.proofs.Common.{arith}
use Rattle.pe_refute.proofs.Judged.{within_wider}
use Rattle.pe_evidence_tests.proofs.pigeon_chains.is_good.Goals as goal

pub check-requires-clause-within : goal.check-requires-clause-within
check-requires-clause-within c = within_wider c.vars_of.result _ c.args.evidence.now (omega arith) c.vars_of.ensures
