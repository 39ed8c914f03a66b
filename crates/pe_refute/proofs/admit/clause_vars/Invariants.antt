use Rattle.std.proofs.Common.{take}
use Rattle.pe_cnf.specs.Clause.{IsBelow}
use Rattle.pe_refute.proofs.admit.clause_vars.Given as goal

abbrev pub invariant-loop-l : goal.invariant-loop-l
invariant-loop-l l = IsBelow l.vars (take l.l-index l.clause)
