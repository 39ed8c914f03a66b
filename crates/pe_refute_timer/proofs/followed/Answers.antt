use Rattle.std.proofs.Common.{arith}
use Rattle.pe_refute.proofs.Judged.{within_wider}
use Rattle.pe_refute_timer.proofs.followed.Goals as goal

pub first_fault-requires-clause-within : goal.first_fault-requires-clause-within
first_fault-requires-clause-within c = within_wider c.vars_of.result _ c.in_ok-chain.chain (omega arith) c.vars_of.ensures
