use Rattle.std.proofs.Common.{◌≡◌, ℕ, length, take}
use Rattle.pe_cnf.specs.Cone.{is_used}
use Rattle.pe_cnf.specs.Marks.{mark_of}
use Rattle.pe_cnf.proofs.marks.mark_used.Given as goal

abbrev pub invariant-loop-e : goal.invariant-loop-e
invariant-loop-e l = record {
  room : length l.marks ≡ length l.cone;
  marked : (x : ℕ) → mark_of l.marks x ≡ is_used (mark_of l.cone) (take l.e-index l.cited) x;
}
