use Rattle.pe_rail_ops.proofs.RegisterGives.{stepped_gives}
use Rattle.pe_rail_ops.proofs.register.stepped.Goals as goal

pub returns-clause-gives : goal.returns-clause-gives
returns-clause-gives c = let g = c.args.graph.now in
    stepped_gives _ _ _ _ c.args.d.now c.args.held.now c.args.before.now c.args.after.now c.constant-corrupt.result c.in_ok-from_zero.from_zero c.in_ok-from_one.from_one _ c.requires.held_in c.requires.before_in c.requires.after_in (c.constant-corrupt.ensures.is_rail g c.graph_law.ensures) (λ v. c.constant-corrupt.ensures.value g v c.graph_law.ensures) c.in_ok-from_zero.ensures.gives c.in_ok-from_one.ensures.gives c.in_ok-stepped.ensures.gives
