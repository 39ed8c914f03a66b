use Rattle.std.proofs.Common.{◌∙◌, ap, sym, drop, ◌+◌}
use Rattle.std.specs.Prelude.{map}
use Rattle.pe_nets.specs.Nets.{value_in}
use Rattle.pe_assigns.specs.Logic.{step_of, chained_value, joined_value}
use Rattle.pe_assigns.proofs.Chains.{value_at}
use Rattle.pe_assigns.proofs.logic.+values.Goals as goal

pub chained_value-loop-operand-preserved : goal.chained_value-loop-operand-preserved
chained_value-loop-operand-preserved t c =
    let value = value_in c.args.nets.now c.args.values.now in
    let rest = map step_of (drop (c.loop-operand.operand-index + 1) c.args.more.now) in
    ap (λ v. chained_value value v rest) (c.joined_value-all.ensures ∙ ap (joined_value c.operand-item.result.op c.loop-operand.all) c.value.ensures)
    ∙ sym (value_at value c.loop-operand.all c.args.more.now c.loop-operand.operand-index c.operand-item.result c.loop-operand-test.true c.operand-item.is)
    ∙ c.loop-operand.invariant
