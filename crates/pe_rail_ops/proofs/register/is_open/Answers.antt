use Rattle.pe_rail_ops.proofs.RegisterGives.{open_gives}
use Rattle.pe_rail_ops.proofs.register.is_open.Goals as goal

pub returns-clause-gives : goal.returns-clause-gives
returns-clause-gives c = open_gives _ _ _ c.args.on c.in_ok-known.known _ c.args.enable.now c.requires.on_in c.in_ok-known.ensures.gives c.in_ok-both.ensures.gives
