use Rattle.pe_questions.proofs.Headline.{replays_where_some}
use Rattle.pe_questions.proofs.judging.replay_law.Goals as goal

pub returns : goal.returns
returns c = replays_where_some
