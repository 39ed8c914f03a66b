use Rattle.std.proofs.Common.{◌≡◌, ℕ, ◌<◌}
use Rattle.pe_bool_expr.specs.Choices.{value_under}
use Rattle.pe_bool_expr.specs.Functions.{formula, value_by}
use Rattle.pe_bool_expr.proofs.evaluate.eval3.Given as goal

abbrev pub invariant-loop-choice : goal.invariant-loop-choice
invariant-loop-choice l = (n : ℕ) → n < l.choice → value_by (value_under l.values l.corrupt.items n) (formula l.e) ≡ l.first
