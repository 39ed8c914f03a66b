use Rattle.std.proofs.Common.{◌≡◌, ◌≤◌, Some, take}
use Rattle.pe_bool_expr.specs.Scan.{before_operand, behind_all}
use Rattle.pe_bool_expr.proofs.scan.first_wrong.Given as goal

abbrev pub invariant-loop-number : goal.invariant-loop-number
invariant-loop-number l = record {
  low : l.state.depth ≤ l.number;
  so_far : behind_all l.style (Some (before_operand 0)) (take l.number l.tokens) ≡ Some l.state;
}
