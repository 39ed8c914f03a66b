use Rattle.std.proofs.Common.{◌≡◌, ◌≤◌, drop, reverse}
use Rattle.pe_bool_expr.specs.Nesting.{first_deep, deep_from}
use Rattle.pe_bool_expr.proofs.nesting.first_deep.Given as goal

abbrev pub invariant-loop-token : goal.invariant-loop-token
invariant-loop-token l = record {
  low : l.counts.now ≤ 64;
  rest : first_deep l.style l.tokens ≡ deep_from l.style (record { now = l.counts.now; behind = l.counts.behind; outer = reverse l.outer }) (drop l.token-index l.tokens);
}
