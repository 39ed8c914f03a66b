use Rattle.std.proofs.Common.{◌++◌, List, drop}
use Rattle.pe_questions.specs.declared.answer.Answer.{Answer}
use Rattle.pe_questions.specs.Answers.{AreAnswers}
use Rattle.pe_questions.proofs.judging.all_answers.Given as goal

abbrev pub invariant-loop-question : goal.invariant-loop-question
invariant-loop-question l = (more : List Answer) → AreAnswers l.d (drop l.question-index l.questions) more → AreAnswers l.d l.questions (l.answers ++ more)
