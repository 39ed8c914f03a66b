use Rattle.std.proofs.Common.{◌≡◌}
use Rattle.std.specs.List.{flat_map, range_with_len}
use Rattle.pe_questions.specs.Questions.{row_questions}
use Rattle.pe_questions.proofs.question.questions.Given as goal

abbrev pub invariant-loop-row : goal.invariant-loop-row
invariant-loop-row l = l.list ≡ flat_map (row_questions l.outputs) (range_with_len 0 l.row)
