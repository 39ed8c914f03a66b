use Rattle.std.proofs.Common.{◌≡◌, take, false}
use Rattle.pe_cnf.specs.Clause.{has}
use Rattle.pe_solver.proofs.same.contains.Given as goal

abbrev pub invariant-loop-x : goal.invariant-loop-x
invariant-loop-x l = has (take l.x-index l.clause) l.l ≡ false
