use Rattle.pe_rail_ops.proofs.Arithmetic.{AreSums}
use Rattle.pe_rail_ops.proofs.numbers.sums.Given as goal

abbrev pub invariant-loop-i : goal.invariant-loop-i
invariant-loop-i l = AreSums l.fn.graph l.graph l.subtract l.a l.b l.i l.sums l.carry
