use Rattle.pe_rail_ops.proofs.Loops.{each_step, each_all}
use Rattle.pe_rail_ops.proofs.gate.Gate.of_each.Goals as goal

pub loop-i-preserved : goal.loop-i-preserved
loop-i-preserved c =
    each_step c.args.self.now _ _ _ c.loop-i.invariant.grows c.requires.gate_in c.args.a.now c.args.b.now _ _ c.loop-i.i c.index-a-i.result c.index-b-i.result c.in_ok-bit.bit c.requires.widths c.loop-i-test.true c.index-a-i.is c.index-b-i.is c.requires.a_in c.requires.b_in c.in_ok-push.ensures.ok c.loop-i.invariant c.in_ok-bit.ensures.gives

pub returns-clause-gives : goal.returns-clause-gives
returns-clause-gives c = each_all c.args.self.now _ _ c.args.a.now c.args.b.now _ c.loop-i.i c.requires.widths c.loop-i-test.false c.loop-i.invariant
