use Rattle.std.proofs.Common.{◌∙◌, sym}
use Rattle.pe_graph.proofs.Gates.{known_and_gives}
use Rattle.pe_graph.proofs.graph.Graph.ordered_and.Goals as goal

pub returns-in-Some-clause-gives : goal.returns-in-Some-clause-gives
returns-in-Some-clause-gives c = known_and_gives _ c.args.a c.args.b c.in-Some.lit c.graph_law.ensures c.requires.order c.requires.b_in (sym c.known_and.ensures ∙ c.in-Some.is)
