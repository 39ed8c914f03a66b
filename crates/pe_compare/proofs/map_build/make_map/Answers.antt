use Rattle.std.proofs.lemmas.List.{take_all}
use Rattle.pe_compare.proofs.MapLines.{said, lines_step, map_shape}
use Rattle.pe_compare.proofs.map_build.make_map.Goals as goal

pub loop-line-preserved : goal.loop-line-preserved
loop-line-preserved c =
    lines_step (said c.args.text.now c.args.tokens.now) _ _ _ _ _ _ c.loop-line-test.true c.line-item.is c.loop-line.invariant c.in_ok-said.ensures c.in_ok-add.ensures

pub returns : goal.returns
returns c = map_shape c.args.text.now c.args.tokens.now _ _ _ _ c.options-line-items.ensures.is (take_all _ _ c.loop-line-test.false) c.loop-line.invariant
