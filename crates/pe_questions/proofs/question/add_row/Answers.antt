use Rattle.std.proofs.Common.{◌++◌, ◌∷◌, [], ◌∙◌, ap, sym, map, arith, append_assoc}
use Rattle.std.specs.List.{range_with_len}
use Rattle.std.proofs.lemmas.List.FromFn.{map-range_with_len_more}
use Rattle.pe_questions.specs.Questions.{output_question}
use Rattle.pe_questions.proofs.question.add_row.Goals as goal

pub loop-output-preserved : goal.loop-output-preserved
loop-output-preserved c =
    let f = output_question c.args.row in
    let k = c.loop-output.output in
    c.in_ok-push.ensures.ok
    ∙ ap (λ xs. xs ++ f k ∷ []) c.loop-output.invariant
    ∙ append_assoc c.args.questions.now (map f (range_with_len 0 k)) (f k ∷ [])
    ∙ ap (λ xs. c.args.questions.now ++ xs) (sym (map-range_with_len_more f 0 k k (omega arith)))
