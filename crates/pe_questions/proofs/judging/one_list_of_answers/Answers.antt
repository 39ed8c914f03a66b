use Rattle.pe_questions.proofs.Headline.{one_list}
use Rattle.pe_questions.proofs.judging.one_list_of_answers.Goals as goal

pub returns : goal.returns
returns c = one_list
