use Rattle.std.proofs.Common.{◌≡◌, ◌≤◌, ◌-◌, length, take}
use Rattle.pe_outside.specs.Outside.{grown}
use Rattle.pe_outside.proofs.sink.write_all.Given as goal

abbrev pub invariant-loop-at : goal.invariant-loop-at
invariant-loop-at g l = record {
  within : l.at ≤ length l.bytes;
  grows : g.S.Sink.written l.sink ≡ grown (g.S.Sink.written l.initial.sink) (take l.at l.bytes);
  counted : g.S.Sink.faults l.initial.sink ≤ g.S.Sink.faults l.sink;
  untouched : l.at ≡ 0 → l.sink ≡ l.initial.sink;
}

abbrev pub decreases-loop-at : goal.decreases-loop-at
decreases-loop-at g l = length l.bytes - l.at
