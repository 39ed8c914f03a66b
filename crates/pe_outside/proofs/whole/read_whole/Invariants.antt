use Rattle.std.proofs.Common.{◌≡◌, ◌≤◌, ℕ, List, IfSome, vec_len, ◌-◌}
use Rattle.pe_outside.specs.Outside.{IsFront}
use Rattle.pe_outside.proofs.whole.read_whole.Given as goal

abbrev pub invariant-loop-bytes : goal.invariant-loop-bytes
invariant-loop-bytes g l = record {
  told : (other : List ℕ) → g.F.Files.told l.files other ≡ g.F.Files.told l.initial.files other;
  counted : (other : List ℕ) → g.F.Files.faults l.initial.files other ≤ g.F.Files.faults l.files other;
  within : vec_len l.bytes ≤ 16777217;
  room : vec_len l.piece ≡ 65536;
  front : IfSome (g.F.Files.told l.initial.files l.name) (IsFront l.bytes.items);
}

abbrev pub decreases-loop-bytes : goal.decreases-loop-bytes
decreases-loop-bytes g l = 16777217 - vec_len l.bytes
