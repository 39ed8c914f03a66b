use Rattle.std.proofs.Common.{◌≡◌, ◌<◌, ℕ, length, get_or}
use Rattle.pe_refute.specs.Known.{knows_of}
use Rattle.pe_solver.specs.Sample.{value_of}
use Rattle.pe_solver.proofs.prefixes.known_bits.Given as goal

abbrev pub invariant-loop-l : goal.invariant-loop-l
invariant-loop-l l = record {
  count : length l.bits.items ≡ l.l-index;
  each : (i : ℕ) → i < l.l-index → value_of l.bits.items i ≡ knows_of l.scratch (get_or l.leaves i 0);
}
