use Rattle.std.proofs.Common.{◌≡◌, drop}
use Rattle.std.specs.Prelude.{find}
use Rattle.pe_questions.specs.Cases.{permits}
use Rattle.pe_questions.proofs.judging.first_permitted.Given as goal

abbrev pub invariant-loop-case : goal.invariant-loop-case
invariant-loop-case l = find (permits l.d l.step) l.cases ≡ find (permits l.d l.step) (drop l.case-index l.cases)
