use Rattle.pe_questions.proofs.Headline.{refined_where_none}
use Rattle.pe_questions.proofs.judging.refined_law.Goals as goal

pub returns : goal.returns
returns c = refined_where_none
