use Rattle.std.proofs.Common.{◌≡◌, [], take}
use Rattle.std.specs.List.{flat_map}
use Rattle.pe_cells.specs.declared.cell.Signal.{Signal}
use Rattle.pe_cells.specs.Functions.{Judges, Adds}
use Rattle.pe_cells.specs.Naming.{Pin, pins_of}
use Rattle.pe_cells.specs.Viewing.{IsSignal, signal_uses}
use Rattle.pe_cells.proofs.signals.make_signals.Given as goal

abbrev pub invariant-loop-group : goal.invariant-loop-group
invariant-loop-group l = record {
  judged : Judges (flat_map (signal_uses l.names) (pins_of (take l.group-index l.groups))) l.initial.faults l.faults;
  signals : l.faults ≡ [] → Adds Pin Signal (IsSignal l.names l.pgs) (pins_of (take l.group-index l.groups)) [] l.signals;
}
