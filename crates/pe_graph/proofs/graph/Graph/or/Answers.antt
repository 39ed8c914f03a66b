use Rattle.pe_graph.proofs.Gates.{or_gives}
use Rattle.pe_graph.proofs.graph.Graph.or.Goals as goal

pub returns-clause-gives : goal.returns-clause-gives
returns-clause-gives c =
    rw c.complement-3.ensures (or_gives _ _ c.args.a c.args.b _ (rw (c.complement.ensures, c.complement-2.ensures) at c.in_ok-neither.ensures.gives))
