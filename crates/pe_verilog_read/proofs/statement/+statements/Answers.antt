use Rattle.std.proofs.lemmas.List.{take_all}
use Rattle.pe_verilog_read.proofs.Building.{arms_shape, block_shape, cases_shape, labelled_shape, default_shape, test_shape, in_test, in_cases, in_wild_cases}
use Rattle.std.proofs.Common.{◌∙◌}
use Rattle.pe_verilog_read.proofs.Shapes.{ok_as}
use Rattle.pe_verilog_read.proofs.statement.+statements.Goals as goal

pub make_arms-returns : goal.make_arms-returns
make_arms-returns t c =
    arms_shape _ _ _ _ _ _ _ _ _ _ c.parts.ensures.is c.items-next-items.ensures.is c.in_ok-make_arm.ensures c.new-all.ensures c.in_ok-push.ensures.ok (take_all _ _ c.loop-next-test.false) c.loop-next.invariant

pub make_block-returns : goal.make_block-returns
make_block-returns t c =
    block_shape _ _ _ _ _ _ _ _ _ _ _ _ c.parts.ensures.is c.parts-2.ensures.is c.parts-3.ensures.is c.items-item-items.ensures.is (take_all _ _ c.loop-item-test.false) c.loop-item.invariant c.in_ok-name.ensures

pub make_cases-returns : goal.make_cases-returns
make_cases-returns t c = cases_shape _ _ _ _ _ _ _ _ _ _ _ c.parts.ensures.is c.parts-2.ensures.is c.parts-3.ensures.is c.in_ok-subject.ensures c.in_ok-arms.ensures

pub make_wild_cases-returns : goal.make_wild_cases-returns
make_wild_cases-returns t c = cases_shape _ _ _ _ _ _ _ _ _ _ _ c.parts.ensures.is c.parts-2.ensures.is c.parts-3.ensures.is c.in_ok-subject.ensures c.in_ok-arms.ensures

pub make_default-returns : goal.make_default-returns
make_default-returns t c = default_shape _ _ _ _ _ _ _ _ c.parts.ensures.is c.parts-2.ensures.is c.new-labels.ensures c.in_ok-body.ensures

pub make_labelled-returns : goal.make_labelled-returns
make_labelled-returns t c = labelled_shape _ _ _ _ _ _ _ _ c.parts.ensures.is c.parts-2.ensures.is c.in_ok-labels.ensures c.in_ok-body.ensures

pub make_test-returns : goal.make_test-returns
make_test-returns t c = test_shape _ _ _ _ _ _ _ _ _ _ _ c.parts.ensures.is c.parts-2.ensures.is c.parts-3.ensures.is c.in_ok-cond.ensures (c.in_ok-yes.ensures ∙ c.in_ok-make_statement.ensures) c.in_ok-no.ensures

pub make_statement-returns-in-Ok-side : goal.make_statement-returns-in-Ok-side
make_statement-returns-in-Ok-side t c = ok_as _ _ _ (in_test _ _ _ _ c.in-Err.ensures.is c.in-Ok-side.ensures.is) c.make_test.ensures

pub make_statement-returns-in-Ok-side-2 : goal.make_statement-returns-in-Ok-side-2
make_statement-returns-in-Ok-side-2 t c = ok_as _ _ _ (in_cases _ _ _ _ _ c.in-Err.ensures.is c.in-Err-side.ensures.is c.in-Ok-side-2.ensures.is) c.make_cases.ensures

pub make_statement-returns-in-Ok-side-3 : goal.make_statement-returns-in-Ok-side-3
make_statement-returns-in-Ok-side-3 t c = ok_as _ _ _ (in_wild_cases _ _ _ _ _ _ c.in-Err.ensures.is c.in-Err-side.ensures.is c.in-Err-side-2.ensures.is c.in-Ok-side-3.ensures.is) c.make_wild_cases.ensures
