use Rattle.pe_base.specs.Words.{all_known}
use Rattle.pe_rail_ops.proofs.Arithmetic.{test_both}
use Rattle.pe_rail_ops.proofs.numbers.both_known.Goals as goal

pub returns-clause-gives : goal.returns-clause-gives
returns-clause-gives c = test_both all_known _ _ _ _ c.args.a.now c.args.b.now c.in_ok-x.x c.in_ok-y.y _ c.requires.b_in c.in_ok-x.ensures.gives c.in_ok-y.ensures.gives c.in_ok-both.ensures.gives
