use Rattle.std.proofs.Common.{◌≡◌, drop}
use Rattle.std.specs.Prelude.{find}
use Rattle.pe_questions.specs.Cases.{refutes}
use Rattle.pe_questions.proofs.judging.first_refuting.Given as goal

abbrev pub invariant-loop-case : goal.invariant-loop-case
invariant-loop-case l = find (refutes l.d l.step l.rtl l.net) l.cases ≡ find (refutes l.d l.step l.rtl l.net) (drop l.case-index l.cases)
