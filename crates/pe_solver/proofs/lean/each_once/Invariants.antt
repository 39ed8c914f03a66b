use Rattle.std.proofs.Common.{◌≡◌, ℕ, take}
use Rattle.pe_cnf.specs.Clause.{has}
use Rattle.pe_refute.specs.Known.{knows_of}
use Rattle.pe_solver.specs.Lean.{IsDistinct}
use Rattle.pe_solver.proofs.lean.each_once.Given as goal

abbrev pub invariant-loop-l : goal.invariant-loop-l
invariant-loop-l l = record {
  same : (m : ℕ) → has l.kept.items m ≡ has (take l.l-index l.literals) m;
  distinct : IsDistinct l.kept.items;
  known : (m : ℕ) → knows_of l.scratch m ≡ has l.kept.items m;
  room : l.scratch.vars ≡ l.fn.scratch.vars;
}
