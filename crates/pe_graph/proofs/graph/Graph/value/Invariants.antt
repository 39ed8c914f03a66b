use Rattle.pe_graph.proofs.Evaluation.{AgreeBelow}
use Rattle.std.proofs.Common.{slice_index_or, false}
use Rattle.pe_graph.specs.Nodes.{values}
use Rattle.pe_graph.proofs.graph.Graph.value.Given as goal

abbrev pub invariant-loop-var : goal.invariant-loop-var
invariant-loop-var l = AgreeBelow l.var l.values (values (λ k. slice_index_or l.leaves k false) l.self)
