use Rattle.std.proofs.Common.{◌≡◌, ◌≤◌, ◌<◌, ℕ, length}
use Rattle.pe_cnf.specs.Cone.{is_used, used_before}
use Rattle.pe_cnf.specs.Marks.{mark_of, entry_of}
use Rattle.pe_cnf.proofs.marks.number_nodes.Given as goal

abbrev pub invariant-loop-is_used : goal.invariant-loop-is_used
invariant-loop-is_used l = record {
  count : length l.numbers.items ≡ l.is_used-index;
  before : l.before ≡ used_before (is_used (mark_of l.cone) l.cited) l.is_used-index;
  small : (x : ℕ) → x < l.is_used-index → entry_of l.numbers.items x ≤ x;
  few : l.before ≤ l.is_used-index;
  each : (x : ℕ) → x < l.is_used-index → entry_of l.numbers.items x ≡ used_before (is_used (mark_of l.cone) l.cited) x;
}
