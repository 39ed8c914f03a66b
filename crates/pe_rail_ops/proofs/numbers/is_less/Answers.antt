use Rattle.pe_rail_ops.proofs.Arithmetic.{less_step, less_all, constant_gives}
use Rattle.std.proofs.Common.{false, refl}
use Rattle.pe_rail_ops.proofs.numbers.is_less.Goals as goal

pub loop-i-preserved : goal.loop-i-preserved
loop-i-preserved c = less_step _ _ _ c.args.a.now c.args.b.now c.loop-i.i c.loop-i.less c.in_ok-below.below c.index-a-i.result c.index-b-i.result c.requires.widths c.requires.a_in c.requires.b_in c.loop-i-test.true c.index-a-i.is c.index-b-i.is c.loop-i.invariant c.in_ok-below.ensures.gives

pub returns-clause-gives : goal.returns-clause-gives
returns-clause-gives c = less_all _ _ c.args.a.now c.args.b.now c.loop-i.i _ c.requires.widths c.loop-i-test.false c.loop-i.invariant

pub loop-i-init : goal.loop-i-init
loop-i-init c = constant_gives _ false _ _ c.graph_law.ensures c.truth-less.ensures (λ v. refl)
