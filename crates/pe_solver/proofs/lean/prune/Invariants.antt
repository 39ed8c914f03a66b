use Rattle.std.proofs.Common.{◌≡◌, ◌≤◌, ℕ, Bool, length, take, reverse}
use Rattle.pe_refute.specs.Known.{knows_of}
use Rattle.pe_solver.specs.Walk.{after}
use Rattle.pe_solver.specs.Lean.{IsTrace, Tight, mentions}
use Rattle.pe_solver.proofs.lean.prune.Given as goal

abbrev pub invariant-loop-left : goal.invariant-loop-left
invariant-loop-left l = record {
  within : l.left ≤ length l.trace.units.items;
  tight : (k : ℕ → Bool) → IsTrace l.all k l.trace → Tight l.all (after (take l.left l.trace.units.items) k) (reverse l.kept.items);
  known : (m : ℕ) → knows_of l.scratch m ≡ mentions l.all (reverse l.kept.items) m;
  room : l.scratch.vars ≡ l.fn.scratch.vars;
}

abbrev pub decreases-loop-left : goal.decreases-loop-left
decreases-loop-left l = l.left
