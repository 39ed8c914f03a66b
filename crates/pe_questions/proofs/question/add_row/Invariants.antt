use Rattle.std.proofs.Common.{◌≡◌, ◌++◌, map}
use Rattle.std.specs.List.{range_with_len}
use Rattle.pe_questions.specs.Questions.{output_question}
use Rattle.pe_questions.proofs.question.add_row.Given as goal

abbrev pub invariant-loop-output : goal.invariant-loop-output
invariant-loop-output l = l.questions ≡ l.fn.questions ++ map (output_question l.row) (range_with_len 0 l.output)
