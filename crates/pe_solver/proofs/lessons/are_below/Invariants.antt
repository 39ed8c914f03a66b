use Rattle.std.proofs.Common.{◌≡◌, ◌<◌, ℕ, take, true}
use Rattle.pe_graph.specs.Literals.{var_of}
use Rattle.pe_cnf.specs.Clause.{has}
use Rattle.pe_solver.proofs.lessons.are_below.Given as goal

abbrev pub invariant-loop-l : goal.invariant-loop-l
invariant-loop-l l = (m : ℕ) → has (take l.l-index l.clause) m ≡ true → var_of m < l.limit
