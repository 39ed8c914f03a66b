use Rattle.pe_cnf.proofs.Forced.{gates_forced, gate_forcing}
use Rattle.pe_cnf.proofs.clauses.forced_law.Goals as goal

pub returns-clause-values : goal.returns-clause-values
returns-clause-values c = λ set n gated le. gates_forced set n gated le

pub returns-clause-units : goal.returns-clause-units
returns-clause-units c = λ set g gated lt. gate_forcing set g gated lt
