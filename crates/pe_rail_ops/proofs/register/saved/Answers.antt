use Rattle.pe_rail_ops.proofs.RegisterGives.{saved_gives}
use Rattle.pe_rail_ops.proofs.register.saved.Goals as goal

pub returns-clause-gives : goal.returns-clause-gives
returns-clause-gives c = saved_gives _ _ _ c.args.inputs.now c.args.seen.now c.in_ok-shadow.shadow _ c.requires.inputs_in c.requires.seen_in c.in_ok-shadow.ensures.gives c.in_ok-saved.ensures.gives
