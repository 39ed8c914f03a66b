use Rattle.std.proofs.lemmas.List.{take_all}
use Rattle.pe_verilog_read.proofs.Building.{simples_shape, simple_join_shape}
use Rattle.pe_verilog_read.proofs.target.+simple.Goals as goal

pub make_simples-returns : goal.make_simples-returns
make_simples-returns t c = simples_shape _ _ _ _ _ _ _ _ _ c.listed.ensures.is c.in_ok-make_simple.ensures c.new-all.ensures c.in_ok-push.ensures.ok (take_all _ _ c.loop-next-test.false) c.loop-next.invariant

pub make_simple-returns-in_ok-all-in-Ok : goal.make_simple-returns-in_ok-all-in-Ok
make_simple-returns-in_ok-all-in-Ok t c = simple_join_shape _ _ _ _ _ _ _ _ c.in-Ok.ensures.is c.parts.ensures.is c.parts-in-Ok.ensures.is c.in_ok-all-in-Ok.ensures
