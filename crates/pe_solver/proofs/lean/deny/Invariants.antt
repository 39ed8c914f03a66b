use Rattle.std.proofs.Common.{◌≡◌, ℕ, take}
use Rattle.pe_refute.specs.Follow.{denied}
use Rattle.pe_refute.specs.Known.{knows_of}
use Rattle.pe_solver.proofs.lean.deny.Given as goal

abbrev pub invariant-loop-l : goal.invariant-loop-l
invariant-loop-l l = record {
  known : (m : ℕ) → knows_of l.scratch m ≡ denied (take l.l-index l.clause) m;
  room : l.scratch.vars ≡ l.initial.scratch.vars;
}
