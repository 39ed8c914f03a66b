use Rattle.std.proofs.Common.{◌≡◌, ◌≢◌, ◌<◌, ℕ, length, false}
use Rattle.pe_cnf.specs.Cone.{leaf_number}
use Rattle.pe_solver.specs.Sample.{value_of}
use Rattle.pe_solver.proofs.sample.spread.Given as goal

abbrev pub invariant-loop-i : goal.invariant-loop-i
invariant-loop-i l = record {
  count : length l.values.items ≡ l.clauses.width;
  inside : (k : ℕ) → k < l.i → value_of l.values.items (leaf_number l.clauses.leaves k) ≡ value_of l.bits k;
  outside : (n : ℕ) → ((k : ℕ) → k < l.i → leaf_number l.clauses.leaves k ≢ n) → value_of l.values.items n ≡ false;
}
