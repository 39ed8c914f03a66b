use Rattle.pe_rail_ops.proofs.Arithmetic.{known_step, known_all, constant_gives}
use Rattle.std.proofs.Common.{true, refl}
use Rattle.pe_rail_ops.proofs.numbers.all_known.Goals as goal

pub loop-i-preserved : goal.loop-i-preserved
loop-i-preserved c = known_step _ _ _ _ c.args.a.now c.loop-i.i c.loop-i.all c.in_ok-known.known _ c.index-a-i.result c.requires c.loop-i-test.true c.index-a-i.is c.loop-i.invariant c.in_ok-known.ensures.gives c.in_ok-both.ensures.gives

pub returns-clause-gives : goal.returns-clause-gives
returns-clause-gives c = known_all _ _ c.args.a.now c.loop-i.i _ c.loop-i-test.false c.loop-i.invariant

pub loop-i-init : goal.loop-i-init
loop-i-init c = constant_gives _ true _ _ c.graph_law.ensures c.truth-all.ensures (λ v. refl)
