use Rattle.std.proofs.Common.{◌∙◌}
use Rattle.pe_graph.proofs.Growth.{found_gives, stands_at}
use Rattle.pe_graph.proofs.graph.Graph.place.Goals as goal

pub returns-in-Some-clause-gives : goal.returns-in-Some-clause-gives
returns-in-Some-clause-gives c =
    let same = c.deref.ensures.value ∙ c.self.view_is in
    let found = rw same at c.in-Some.ensures.found in
    found_gives _ c.args.node c.of.result (rw c.self.view_is at c.self.invariant.0) (stands_at _ _ c.in-Some.var _ found.0 found.1 c.of.ensures)
