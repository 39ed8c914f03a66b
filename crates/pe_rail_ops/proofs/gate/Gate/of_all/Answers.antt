use Rattle.pe_rail_ops.proofs.Loops.{all_step, all_all}
use Rattle.pe_rail_ops.proofs.gate.Gate.of_all.Goals as goal

pub loop-i-preserved : goal.loop-i-preserved
loop-i-preserved c = all_step c.args.self.now _ _ _ c.loop-i.invariant.grows c.requires.gate_in c.args.first c.args.a.now c.loop-i.i c.loop-i.all c.index-a-i.result _ c.loop-i-test.true c.index-a-i.is c.requires.a_in c.loop-i.invariant c.in_ok-more.ensures.gives

pub returns-clause-gives : goal.returns-clause-gives
returns-clause-gives c = all_all c.args.self.now c.args.first _ _ c.args.a.now c.loop-i.i _ c.loop-i-test.false c.loop-i.invariant
