use Rattle.std.proofs.Common.{◌≡◌, ℕ, take, true}
use Rattle.pe_cnf.specs.Clause.{has}
use Rattle.pe_refute.specs.Known.{knows_of}
use Rattle.pe_solver.proofs.same.all_known.Given as goal

abbrev pub invariant-loop-l : goal.invariant-loop-l
invariant-loop-l l = (m : ℕ) → has (take l.l-index l.clause) m ≡ true → knows_of l.scratch m ≡ true
