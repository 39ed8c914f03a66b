use Rattle.std.proofs.Common.{◌≡◌, ◌<◌, ℕ, length, get_or}
use Rattle.pe_solver.proofs.outcome.numbers_below.Given as goal

abbrev pub invariant-loop-id : goal.invariant-loop-id
invariant-loop-id l = record {
  count : length l.ids.items ≡ l.id;
  each : (i : ℕ) → i < l.id → get_or l.ids.items i 0 ≡ i;
}
