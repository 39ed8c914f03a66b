use Rattle.std.proofs.Common.{◌≡◌, [], map, take}
use Rattle.std.specs.List.{flat_map}
use Rattle.pe_cells.specs.declared.cell.Signal.{Signal}
use Rattle.pe_cells.specs.Functions.{Judges, Adds}
use Rattle.pe_cells.specs.Naming.{Pin, pin_of}
use Rattle.pe_cells.specs.Viewing.{IsSignal, signal_uses}
use Rattle.pe_cells.proofs.signals.add_signals.Given as goal

abbrev pub invariant-loop-name : goal.invariant-loop-name
invariant-loop-name l = record {
  judged : Judges (flat_map (signal_uses l.names) (map (pin_of l.group) (take l.name-index l.name-items))) l.initial.faults l.faults;
  signals : l.faults ≡ [] → Adds Pin Signal (IsSignal l.names l.pgs) (map (pin_of l.group) (take l.name-index l.name-items)) l.initial.signals l.signals;
}
