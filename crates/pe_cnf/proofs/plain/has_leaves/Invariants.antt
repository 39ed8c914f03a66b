use Rattle.std.proofs.Common.{◌≡◌, ◌<◌, ℕ}
use Rattle.pe_graph.specs.Nodes.{node_at}
use Rattle.pe_graph.specs.declared.graph.Node.TheVariants.{Leaf}
use Rattle.pe_cnf.proofs.plain.has_leaves.Given as goal

abbrev pub invariant-loop-x : goal.invariant-loop-x
invariant-loop-x l = (x k : ℕ) → x < l.x → node_at l.graph x ≡ Leaf k → k < l.count
