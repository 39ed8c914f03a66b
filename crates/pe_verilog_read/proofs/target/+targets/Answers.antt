use Rattle.std.proofs.lemmas.List.{take_all}
use Rattle.pe_verilog_read.proofs.Building.{targets_shape, target_join_shape}
use Rattle.pe_verilog_read.proofs.target.+targets.Goals as goal

pub make_targets-returns : goal.make_targets-returns
make_targets-returns t c = targets_shape _ _ _ _ _ _ _ _ _ c.listed.ensures.is c.in_ok-make_target.ensures c.new-all.ensures c.in_ok-push.ensures.ok (take_all _ _ c.loop-next-test.false) c.loop-next.invariant

pub make_target-returns-in_ok-all-in-Ok : goal.make_target-returns-in_ok-all-in-Ok
make_target-returns-in_ok-all-in-Ok t c = target_join_shape _ _ _ _ _ _ _ _ c.in-Ok.ensures.is c.parts.ensures.is c.parts-in-Ok.ensures.is c.in_ok-all-in-Ok.ensures
