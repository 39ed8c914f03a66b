use Rattle.std.proofs.Common.{◌<◌, ℕ}
use Rattle.std.specs.Bool.{IsTrue}
use Rattle.pe_graph.specs.Cone.{has_leaf}
use Rattle.pe_cnf.proofs.plain.has_each.Given as goal

abbrev pub invariant-loop-number : goal.invariant-loop-number
invariant-loop-number l = (k : ℕ) → k < l.number → IsTrue (has_leaf l.graph k)
