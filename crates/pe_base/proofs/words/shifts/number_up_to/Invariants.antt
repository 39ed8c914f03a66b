use Rattle.std.proofs.Common.{◌≡◌, ◌≤◌, drop, length}
use Rattle.std.specs.Prelude.{min}
use Rattle.pe_base.specs.Words.{value_number}
use Rattle.pe_base.proofs.words.shifts.number_up_to.Given as goal

abbrev pub invariant-loop-i : goal.invariant-loop-i
invariant-loop-i l = record {
  within : l.i ≤ length l.a;
  number : l.number ≡ min (value_number (drop l.i l.a)) l.most;
}

abbrev pub decreases-loop-i : goal.decreases-loop-i
decreases-loop-i l = l.i
