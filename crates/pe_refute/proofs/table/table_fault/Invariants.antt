use Rattle.std.proofs.Common.{◌≡◌, ◌<◌, ◌+◌, ℕ, Bool, take}
use Rattle.pe_cnf.specs.Clause.{Satisfies}
use Rattle.pe_refute.specs.Table.{Assigns}
use Rattle.pe_refute.proofs.table.table_fault.Given as goal

abbrev pub invariant-loop-k : goal.invariant-loop-k
invariant-loop-k l = record {
  room : l.scratch.vars ≡ l.fn.scratch.vars;
  none : (j : ℕ) → j < l.k → (w : ℕ → Bool) → Assigns l.clauses.leaves j w → Satisfies w (take (l.clauses.gates + 3) l.clauses.clauses) → ⊥;
}
