use Rattle.pe_rail_ops.proofs.RegisterGives.{next_shadow_gives}
use Rattle.pe_rail_ops.proofs.register.next_shadow.Goals as goal

pub returns-clause-gives : goal.returns-clause-gives
returns-clause-gives c = next_shadow_gives _ _ _ _ c.args.inputs.now c.in_ok-seen.seen c.in_ok-saved.saved _ c.requires c.in_ok-seen.ensures.gives c.in_ok-saved.ensures.gives c.in_ok-next.ensures.gives
