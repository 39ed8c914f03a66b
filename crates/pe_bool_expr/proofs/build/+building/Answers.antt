use Rattle.std.proofs.lemmas.List.{take_all}
use Rattle.pe_bool_expr.proofs.Building.{marked_shape, primed_shape, bracketed_shape, operands_shape}
use Rattle.pe_bool_expr.proofs.build.+building.Goals as goal

pub make_liberty_marked-returns : goal.make_liberty_marked-returns
make_liberty_marked-returns t c = marked_shape _ _ _ _ _ _ _ _ c.parts.ensures.is c.items-count.ensures.is c.in_ok-operand.ensures c.in_ok-whole.ensures

pub make_liberty_primed-returns : goal.make_liberty_primed-returns
make_liberty_primed-returns t c = primed_shape _ _ _ _ _ _ _ _ c.parts.ensures.is c.items-count.ensures.is c.in_ok-operand.ensures c.in_ok-whole.ensures

pub make_upf_marked-returns : goal.make_upf_marked-returns
make_upf_marked-returns t c = marked_shape _ _ _ _ _ _ _ _ c.parts.ensures.is c.items-count.ensures.is c.in_ok-operand.ensures c.in_ok-whole.ensures

pub make_operands-returns : goal.make_operands-returns
make_operands-returns t c =
    operands_shape _ _ _ _ _ _ _ _ _ _ _ c.listed.ensures.is c.in_ok-make_level.ensures c.new-all.ensures c.in_ok-push.ensures.ok (take_all _ _ c.loop-next-test.false) c.loop-next.invariant

pub make_liberty_primary-returns-in_ok-whole-in-Err-side-2 : goal.make_liberty_primary-returns-in_ok-whole-in-Err-side-2
make_liberty_primary-returns-in_ok-whole-in-Err-side-2 t c =
    bracketed_shape _ _ _ _ _ _ _ _ _ _ _ c.in-Err.ensures.is c.in-Err-side.ensures.is c.in-Err-side-2.ensures.is c.parts.ensures.is c.parts-in-Err-side-2.ensures.is
    c.in_ok-whole-in-Err-side-2.ensures

pub make_upf_primary-returns-in_ok-whole-in-Err-side-2 : goal.make_upf_primary-returns-in_ok-whole-in-Err-side-2
make_upf_primary-returns-in_ok-whole-in-Err-side-2 t c =
    bracketed_shape _ _ _ _ _ _ _ _ _ _ _ c.in-Err.ensures.is c.in-Err-side.ensures.is c.in-Err-side-2.ensures.is c.parts.ensures.is c.parts-in-Err-side-2.ensures.is
    c.in_ok-whole-in-Err-side-2.ensures
