use Rattle.std.proofs.Common.{◌≡◌}
use Rattle.pe_bool_expr.specs.Meaning.{negated}
use Rattle.pe_bool_expr.proofs.build.negate.Given as goal

abbrev pub invariant-loop : goal.invariant-loop
invariant-loop l = l.whole ≡ negated l.counter l.fn.operand
