use Rattle.std.proofs.Common.{◌≡◌, ◌<◌, ℕ, false, length, get_or}
use Rattle.pe_graph.specs.Literals.{lit_of}
use Rattle.pe_cnf.specs.ClauseSet.{leaf_var}
use Rattle.pe_solver.proofs.outcome.leaf_literals.Given as goal

abbrev pub invariant-loop-leaf : goal.invariant-loop-leaf
invariant-loop-leaf l = record {
  count : length l.own.items ≡ l.leaf-index;
  each : (i : ℕ) → i < l.leaf-index → get_or l.own.items i 0 ≡ lit_of (leaf_var l.clauses.leaves i) false;
}
