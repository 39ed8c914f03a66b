use Rattle.pe_cnf.proofs.Samples.{question_forced}
use Rattle.pe_cnf.proofs.clauses.counterexample_law.Goals as goal

pub returns : goal.returns
returns c = λ nodes goal width cited set w v graph has_goal s agree holds. question_forced s.0 s.1.0 nodes goal width cited set w v graph has_goal s.1.1 agree holds
