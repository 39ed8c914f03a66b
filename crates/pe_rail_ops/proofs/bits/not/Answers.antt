use Rattle.pe_rail_ops.proofs.Loops.{not_step, rail_at}
use Rattle.pe_rail_ops.proofs.bits.not.Goals as goal

pub loop-i-preserved : goal.loop-i-preserved
loop-i-preserved c =
    let g = c.args.graph.now in
    let is_rail = rail_at g c.args.a.now c.loop-i.i c.index-a-i.result c.requires c.loop-i-test.true c.index-a-i.is in
    not_step g c.args.a.now _ _ c.loop-i.i c.index-a-i.result _ c.loop-i-test.true c.index-a-i.is c.requires (c.not.ensures.is_rail g is_rail) (λ v. c.not.ensures.value g v is_rail) c.in_ok-push.ensures.ok c.loop-i.invariant
