use Rattle.std.proofs.lemmas.List.{take_all}
use Rattle.pe_verilog_read.proofs.Shapes.{ok_as, chosen_shape, plain_shape, left_shape, right_shape, operands_shape, unary_shape, group_shape, in_braces, in_operand, number_shape, join_shape, repeat_shape, inner_shape, list_shape, others_shape, select_shape, upto_shape}
use Rattle.pe_verilog_read.proofs.expression.+expressions.Goals as goal

pub make_ex-returns-in_ok-yes-in-Ok : goal.make_ex-returns-in_ok-yes-in-Ok
make_ex-returns-in_ok-yes-in-Ok t c = ok_as _ _ _ (chosen_shape _ _ _ _ _ _ _ _ _ _ c.parts.ensures.is c.in-Ok.ensures.is c.parts-in-Ok.ensures.is c.in_ok-first.ensures c.in_ok-yes-in-Ok.ensures.0 c.in_ok-yes-in-Ok.ensures.1) c.choose.ensures

pub make_ex-returns-in-Err : goal.make_ex-returns-in-Err
make_ex-returns-in-Err t c = plain_shape _ _ _ _ _ _ c.parts.ensures.is c.in-Err.ensures.is c.in_ok-first.ensures

pub make_inner-returns : goal.make_inner-returns
make_inner-returns t c = ok_as _ _ _ (inner_shape _ _ _ _ _ _ c.parts.ensures.is c.parts-2.ensures.is) c.make_list.ensures

pub make_list-returns : goal.make_list-returns
make_list-returns t c = ok_as _ _ _ (list_shape _ _ _ _ _ c.parts.ensures.is c.in_ok-first.ensures) c.make_others.ensures

pub make_operand-returns-in-Constant : goal.make_operand-returns-in-Constant
make_operand-returns-in-Constant t c = ok_as _ _ _ (number_shape _ _ _ c.token-number.ensures) c.make_number.ensures

pub make_primary-returns-in_ok-whole-in-Ok : goal.make_primary-returns-in_ok-whole-in-Ok
make_primary-returns-in_ok-whole-in-Ok t c = group_shape _ _ _ _ _ _ _ _ c.in-Ok.ensures.is c.parts.ensures.is c.parts-in-Ok.ensures.is c.in_ok-whole-in-Ok.ensures

pub make_primary-returns-in-Ok-side : goal.make_primary-returns-in-Ok-side
make_primary-returns-in-Ok-side t c = ok_as _ _ _ (in_braces _ _ _ _ c.in-Err.ensures.is c.in-Ok-side.ensures.is) c.make_braces.ensures

pub make_primary-returns-in-Err-side : goal.make_primary-returns-in-Err-side
make_primary-returns-in-Err-side t c = ok_as _ _ _ (in_operand _ _ _ _ c.in-Err.ensures.is c.in-Err-side.ensures.is) c.make_operand.ensures

pub make_select-returns : goal.make_select-returns
make_select-returns t c = ok_as _ _ _ (select_shape _ _ _ _ _ _ _ _ _ _ c.parts.ensures.is c.parts-2.ensures.is c.parts-3.ensures.is c.in_ok-first.ensures c.in_ok-second.ensures) c.select.ensures

pub make_sides-returns : goal.make_sides-returns
make_sides-returns t c = (left_shape _ _ _ _ _ c.parts.ensures.is c.in_ok-left.ensures, right_shape _ _ _ _ _ _ _ c.parts.ensures.is c.parts-2.ensures.is c.in_ok-right.ensures)

pub make_unary-returns-in_ok-value-in-Ok : goal.make_unary-returns-in_ok-value-in-Ok
make_unary-returns-in_ok-value-in-Ok t c = ok_as _ _ _ (unary_shape _ _ _ _ _ _ _ _ c.in-Ok.ensures.is c.parts.ensures.is c.in_ok-value-in-Ok.ensures c.leaf.ensures c.sign.ensures) c.unary.ensures

pub make_upto-returns-in_ok-make_ex-in-Ok : goal.make_upto-returns-in_ok-make_ex-in-Ok
make_upto-returns-in_ok-make_ex-in-Ok t c = upto_shape _ _ _ _ _ _ c.in-Ok.ensures.is c.parts.ensures.is c.in_ok-make_ex-in-Ok.ensures

pub make_others-returns : goal.make_others-returns
make_others-returns t c = others_shape _ _ _ _ _ _ _ _ c.items-next-items.ensures.is c.new-all.ensures c.in_ok-push.ensures.ok (take_all _ _ c.loop-next-test.false) c.loop-next.invariant

pub make_braces-returns-in_ok-all-in-Ok : goal.make_braces-returns-in_ok-all-in-Ok
make_braces-returns-in_ok-all-in-Ok t c = join_shape _ _ _ _ _ _ _ _ _ _ _ c.parts.ensures.is c.parts-2.ensures.is c.parts-3.ensures.is c.in-Ok.ensures.is c.in_ok-first.ensures c.in_ok-all-in-Ok.ensures

pub make_braces-returns-in_ok-parts-in-Err : goal.make_braces-returns-in_ok-parts-in-Err
make_braces-returns-in_ok-parts-in-Err t c = ok_as _ _ _ (repeat_shape _ _ _ _ _ _ _ _ _ _ _ c.parts.ensures.is c.parts-2.ensures.is c.parts-3.ensures.is c.in-Err.ensures.is c.in_ok-first.ensures c.in_ok-parts-in-Err.ensures) c.repeat.ensures

pub make_operands-returns : goal.make_operands-returns
make_operands-returns t c = operands_shape _ _ _ _ _ _ _ _ _ c.listed.ensures.is c.in_ok-first.ensures c.new-more.ensures (take_all _ _ c.loop-next-test.false) c.loop-next.invariant
