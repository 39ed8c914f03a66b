use Rattle.pe_rail_ops.proofs.RegisterGives.{isolated_gives}
use Rattle.pe_rail_ops.proofs.register.isolated.Goals as goal

pub returns-clause-gives : goal.returns-clause-gives
returns-clause-gives c = isolated_gives _ _ _ _ c.args.on c.in_ok-unlocked.unlocked c.args.enable.now c.args.x.now c.in_ok-passed.passed _ c.args.sense c.args.clamp c.requires.on_in c.requires.enable_in c.requires.x_in c.in_ok-passed.ensures.gives c.in_ok-unlocked.ensures.gives c.in_ok-kept.ensures.gives
