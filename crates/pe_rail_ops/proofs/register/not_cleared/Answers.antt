use Rattle.pe_rail_ops.proofs.RegisterGives.{not_cleared_gives}
use Rattle.pe_rail_ops.proofs.register.not_cleared.Goals as goal

pub returns-clause-gives : goal.returns-clause-gives
returns-clause-gives c = let g = c.args.graph.now in let k = c.args.inputs.now in let h = c.requires.inputs_in in
    not_cleared_gives _ _ _ _ k.preset k.restore c.args.otherwise.now c.constant-one.result c.in_ok-shadow.shadow c.in_ok-restored.restored _ _ h.preset h.restore c.requires.otherwise_in (c.constant-one.ensures.is_rail g c.graph_law.ensures) (λ v. c.constant-one.ensures.value g v c.graph_law.ensures) c.in_ok-shadow.ensures.gives c.in_ok-restored.ensures.gives c.in_ok-not_cleared.ensures.gives
