use Rattle.std.proofs.Common.{◌≡◌, ◌-◌, [], map}
use Rattle.std.specs.List.{range_with_len}
use Rattle.pe_cells.specs.declared.cell.CellSwitch.{CellSwitch}
use Rattle.pe_cells.specs.Functions.{Judges, Adds}
use Rattle.pe_cells.specs.Viewing.{Output, output_of, IsSwitch, switch_use}
use Rattle.pe_cells.proofs.switches.add_switches.Given as goal

abbrev pub invariant-loop-place : goal.invariant-loop-place
invariant-loop-place l = record {
  judged : Judges (map (switch_use l.names) (map (output_of l.group) (range_with_len l.first (l.place - l.first)))) l.initial.faults l.faults;
  switches : l.faults ≡ [] → Adds Output CellSwitch (IsSwitch l.names l.pgs) (map (output_of l.group) (range_with_len l.first (l.place - l.first))) l.initial.switches l.switches;
}
