use Rattle.std.proofs.Common.{◌∙◌, sym}
use Rattle.pe_assigns.proofs.Chains.{stops_join, stops_read, goes_on}
use Rattle.pe_assigns.proofs.logic.+reading.Goals as goal

pub are_read-returns-then-not-is_join : goal.are_read-returns-then-not-is_join
are_read-returns-then-not-is_join t c =
    stops_join c.args.known.now c.args.more.now c.loop-operand.operand-index c.operand-item.result _ c.loop-operand-test.true c.operand-item.is
    (sym c.is_join.ensures ∙ c.if-not-is_join.true) c.loop-operand.invariant

pub are_read-returns-then-not-is_read : goal.are_read-returns-then-not-is_read
are_read-returns-then-not-is_read t c =
    stops_read c.args.known.now c.args.more.now c.loop-operand.operand-index c.operand-item.result _ c.loop-operand-test.true c.operand-item.is
    (sym c.is_read.ensures ∙ c.if-not-is_read.true) c.loop-operand.invariant

pub are_read-loop-operand-preserved : goal.are_read-loop-operand-preserved
are_read-loop-operand-preserved t c =
    goes_on c.args.known.now c.args.more.now c.loop-operand.operand-index c.operand-item.result _ c.loop-operand-test.true c.operand-item.is
    (sym c.is_join.ensures ∙ c.if-not-is_join.false) (sym c.is_read.ensures ∙ c.if-not-is_read.false) c.loop-operand.invariant
