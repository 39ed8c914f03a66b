use Rattle.pe_rail_ops.proofs.RegisterGives.{kept_chosen_gives}
use Rattle.pe_rail_ops.proofs.register.next_main.Goals as goal

pub returns-clause-gives : goal.returns-clause-gives
returns-clause-gives c = kept_chosen_gives _ _ _ _ c.args.inputs.now c.in_ok-clocked.clocked c.in_ok-chosen.chosen _ _ c.requires c.in_ok-clocked.ensures.gives c.in_ok-chosen.ensures.gives c.in_ok-next.ensures.gives
