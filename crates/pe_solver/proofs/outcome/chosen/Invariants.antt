use Rattle.std.proofs.Common.{◌≡◌, ◌<◌, ℕ, ◌⊎◌, length, get_or}
use Rattle.pe_graph.specs.Literals.{complement_of}
use Rattle.pe_solver.proofs.outcome.chosen.Given as goal

abbrev pub invariant-loop-l : goal.invariant-loop-l
invariant-loop-l l = record {
  count : length l.prefix.items ≡ l.l-index;
  each : (i : ℕ) → i < l.l-index → (get_or l.prefix.items i 0 ≡ get_or l.own i 0) ⊎ (get_or l.prefix.items i 0 ≡ complement_of (get_or l.own i 0));
}
