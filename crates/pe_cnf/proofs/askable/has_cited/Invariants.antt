use Rattle.std.proofs.Common.{take}
use Rattle.pe_cnf.specs.Cone.{HasCited}
use Rattle.pe_cnf.proofs.askable.has_cited.Given as goal

abbrev pub invariant-loop-e : goal.invariant-loop-e
invariant-loop-e l = HasCited l.graph (take l.e-index l.cited)
