use Rattle.std.proofs.Common.{◌≡◌}
use Rattle.pe_refute.specs.Evaluation.{value_of, IsEvaluated}
use Rattle.pe_refute.proofs.table.breaks.Given as goal

abbrev pub invariant-loop-g : goal.invariant-loop-g
invariant-loop-g l = record {
  room : l.scratch.vars ≡ l.fn.scratch.vars;
  evaluated : IsEvaluated l.clauses.leaves l.clauses.clauses l.k l.g (value_of l.scratch);
}
