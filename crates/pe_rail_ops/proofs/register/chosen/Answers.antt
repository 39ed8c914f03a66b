use Rattle.pe_rail_ops.proofs.RegisterGives.{chosen_gives}
use Rattle.pe_rail_ops.proofs.register.chosen.Goals as goal

pub returns-clause-gives : goal.returns-clause-gives
returns-clause-gives c = let g = c.args.graph.now in
    chosen_gives _ _ _ _ c.args.inputs.now c.args.otherwise.now c.constant-zero.result c.in_ok-not_cleared.not_cleared c.in_ok-cleared.cleared _ c.requires.inputs_in (c.constant-zero.ensures.is_rail g c.graph_law.ensures) (λ v. c.constant-zero.ensures.value g v c.graph_law.ensures) c.in_ok-not_cleared.ensures.gives c.in_ok-cleared.ensures.gives c.in_ok-chosen.ensures.gives
