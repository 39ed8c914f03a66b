use Rattle.std.proofs.Common.{◌≡◌, ◌<◌, ◌≤◌, ◌-◌, ℕ, length}
use Rattle.pe_refute.specs.Table.{halved, leaf_bit}
use Rattle.pe_solver.specs.Sample.{value_of}
use Rattle.pe_solver.proofs.sample.bits_of.Given as goal

abbrev pub invariant-loop-left : goal.invariant-loop-left
invariant-loop-left l = record {
  within : l.left ≤ l.count;
  length_is : length l.bits.items ≡ l.count;
  rest_is : l.rest ≡ halved l.step (l.count - l.left);
  each : (i : ℕ) → l.left ≤ i → i < l.count → value_of l.bits.items i ≡ leaf_bit l.step l.count i;
}

abbrev pub decreases-loop-left : goal.decreases-loop-left
decreases-loop-left l = l.left
