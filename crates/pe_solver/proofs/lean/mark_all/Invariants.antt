use Rattle.std.proofs.Common.{◌≡◌, ℕ, take, ◌||◌}
use Rattle.pe_cnf.specs.Clause.{has}
use Rattle.pe_refute.specs.Known.{knows_of}
use Rattle.pe_solver.proofs.lean.mark_all.Given as goal

abbrev pub invariant-loop-l : goal.invariant-loop-l
invariant-loop-l l = record {
  known : (m : ℕ) → knows_of l.scratch m ≡ (has (take l.l-index l.clause) m || knows_of l.fn.scratch m);
  room : l.scratch.vars ≡ l.fn.scratch.vars;
}
