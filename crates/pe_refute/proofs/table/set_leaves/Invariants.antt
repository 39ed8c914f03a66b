use Rattle.std.proofs.Common.{◌≡◌, ◌≤◌, ◌-◌, length}
use Rattle.pe_refute.specs.Table.{halved}
use Rattle.pe_refute.specs.Evaluation.{value_of}
use Rattle.pe_refute.proofs.Evaluated.{AreSet}
use Rattle.pe_refute.proofs.table.set_leaves.Given as goal

abbrev pub invariant-loop-left : goal.invariant-loop-left
invariant-loop-left l = record {
  room : l.scratch.vars ≡ l.fn.scratch.vars;
  within : l.left ≤ length l.leaves;
  rest : l.rest ≡ halved l.k (length l.leaves - l.left);
  leaves_are : AreSet l.leaves l.clauses.clauses l.k l.left (value_of l.scratch);
}

abbrev pub decreases-loop-left : goal.decreases-loop-left
decreases-loop-left l = l.left
