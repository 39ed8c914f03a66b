use Rattle.std.proofs.Common.{◌++◌, ◌∙◌, ap, sym}
use Rattle.pe_questions.specs.Questions.{row_questions}
use Rattle.pe_questions.proofs.Asked.{rows_more}
use Rattle.pe_questions.proofs.question.questions.Goals as goal

pub loop-row-preserved : goal.loop-row-preserved
loop-row-preserved c =
    c.in_ok-add_row.ensures ∙ ap (λ list. list ++ row_questions c.in_ok-outputs.outputs c.loop-row.row) c.loop-row.invariant ∙ sym (rows_more c.in_ok-outputs.outputs c.loop-row.row)
