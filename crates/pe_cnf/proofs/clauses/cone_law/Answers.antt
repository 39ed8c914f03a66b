use Rattle.pe_cnf.proofs.Values.{cone_satisfied}
use Rattle.pe_cnf.proofs.clauses.cone_law.Goals as goal

pub returns : goal.returns
returns c = λ nodes goal width cited set v graph has_goal has_cited s true_cited on differ. cone_satisfied s.0 s.1.0 nodes goal width cited set v graph has_goal has_cited s.1.1 true_cited on differ
