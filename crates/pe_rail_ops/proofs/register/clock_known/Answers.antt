use Rattle.pe_rail_ops.proofs.RegisterGives.{clock_gives}
use Rattle.pe_rail_ops.proofs.register.clock_known.Goals as goal

pub returns-clause-gives : goal.returns-clause-gives
returns-clause-gives c = clock_gives _ _ _ _ c.args.before.now c.args.after.now c.in_ok-x.x c.in_ok-y.y _ c.requires.before_in c.requires.after_in c.in_ok-x.ensures.gives c.in_ok-y.ensures.gives c.in_ok-both.ensures.gives
