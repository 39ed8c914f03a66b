use Rattle.pe_questions.proofs.Asked.{all_told}
use Rattle.pe_questions.proofs.judging.all_answers.Goals as goal

pub returns : goal.returns
returns c = all_told c.args.d.now c.args.questions.now c.loop-question.answers c.loop-question.question-index c.loop-question-test.false c.loop-question.invariant
