use Rattle.pe_rail_ops.proofs.Loops.{one_rail}
use Rattle.pe_rail_ops.proofs.shifts.pick.Goals as goal

pub returns-clause-gives : goal.returns-clause-gives
returns-clause-gives c = one_rail _ _ _ c.in_ok-bit.bit _ c.in_ok-bits.ensures c.in_ok-bit.ensures.gives
