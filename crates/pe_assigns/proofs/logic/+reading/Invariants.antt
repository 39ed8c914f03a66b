use Rattle.std.proofs.Common.{◌≡◌, drop}
use Rattle.std.specs.Prelude.{map}
use Rattle.pe_assigns.specs.Logic.{step_of, are_read}
use Rattle.pe_assigns.proofs.logic.+reading.Given as goal

abbrev pub invariant-are_read-loop-operand : goal.invariant-are_read-loop-operand
invariant-are_read-loop-operand l = are_read l.known (map step_of (drop l.operand-index l.more)) ≡ are_read l.known (map step_of l.more)
