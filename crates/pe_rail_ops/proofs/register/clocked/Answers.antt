use Rattle.pe_rail_ops.proofs.RegisterGives.{clocked_gives}
use Rattle.pe_rail_ops.proofs.register.clocked.Goals as goal

pub returns-clause-gives : goal.returns-clause-gives
returns-clause-gives c = let k = c.args.inputs.now in
    clocked_gives _ _ _ k.d k.before k.after c.in_ok-held.held _ _ c.requires.d c.requires.before c.requires.after c.in_ok-held.ensures.gives c.in_ok-clocked.ensures.gives
