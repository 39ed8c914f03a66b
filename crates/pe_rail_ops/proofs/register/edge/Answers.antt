use Rattle.pe_rail_ops.proofs.RegisterGives.{edge_gives}
use Rattle.pe_rail_ops.proofs.register.edge.Goals as goal

pub returns-clause-gives : goal.returns-clause-gives
returns-clause-gives c = edge_gives _ _ _ _ _ c.args.d.now c.args.held.now c.args.before.now c.args.after.now c.known.result c.in_ok-merged.merged c.in_ok-stepped.stepped _ c.in_ok-seen.seen c.requires.d_in c.requires.held_in c.requires.before_in c.requires.after_in c.in_ok-seen.ensures.gives c.in_ok-merged.ensures.gives c.in_ok-stepped.ensures.gives (λ v. c.known.ensures.value c.stepped.new.graph v) c.in_ok-edge.ensures.gives
