use Rattle.std.proofs.Common.{◌≡◌, ◌≤◌, length}
use Rattle.pe_cnf.specs.Marks.{mark_of, Spreads}
use Rattle.pe_cnf.proofs.marks.spread.Given as goal

abbrev pub invariant-loop-left : goal.invariant-loop-left
invariant-loop-left l = record {
  room : length l.marks ≡ length l.fn.marks;
  within : l.left ≤ length l.marks;
  spreads : Spreads l.graph l.left (mark_of l.fn.marks) (mark_of l.marks);
}

abbrev pub decreases-loop-left : goal.decreases-loop-left
decreases-loop-left l = l.left
