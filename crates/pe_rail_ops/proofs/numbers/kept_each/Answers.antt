use Rattle.pe_rail_ops.proofs.Arithmetic.{kept_step, kept_all}
use Rattle.pe_rail_ops.proofs.numbers.kept_each.Goals as goal

pub loop-i-preserved : goal.loop-i-preserved
loop-i-preserved c = kept_step _ _ _ c.args.on c.args.a.now _ _ c.loop-i.i c.index-a-i.result _ c.requires.on_in c.requires.a_in c.loop-i-test.true c.index-a-i.is c.in_ok-push.ensures.ok c.loop-i.invariant c.in_ok-bit.ensures.gives

pub returns-clause-gives : goal.returns-clause-gives
returns-clause-gives c = kept_all _ _ c.args.on c.args.a.now _ c.loop-i.i c.loop-i-test.false c.loop-i.invariant
