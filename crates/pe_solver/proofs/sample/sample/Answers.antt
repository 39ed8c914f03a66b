use Rattle.pe_solver.proofs.Samples.{spread_sample}
use Rattle.pe_solver.proofs.sample.sample.Goals as goal

pub returns-clause-sample : goal.returns-clause-sample
returns-clause-sample c = spread_sample c.args.clauses.now c.args.bits.now _ c.requires.breaking c.in_ok-values.ensures
