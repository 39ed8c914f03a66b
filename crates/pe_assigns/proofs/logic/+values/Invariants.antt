use Rattle.std.proofs.Common.{◌≡◌, drop}
use Rattle.std.specs.Prelude.{map}
use Rattle.pe_nets.specs.Nets.{value_in}
use Rattle.pe_assigns.specs.Logic.{step_of, chained_value}
use Rattle.pe_assigns.proofs.logic.+values.Given as goal

abbrev pub invariant-chained_value-loop-operand : goal.invariant-chained_value-loop-operand
invariant-chained_value-loop-operand l =
    chained_value (value_in l.nets l.values) l.all (map step_of (drop l.operand-index l.more)) ≡ chained_value (value_in l.nets l.values) l.fn.first (map step_of l.more)
