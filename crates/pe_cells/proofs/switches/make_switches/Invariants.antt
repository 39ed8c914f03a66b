use Rattle.std.proofs.Common.{drop}
use Rattle.pe_cells.proofs.Switching.{IsSwitching}
use Rattle.pe_cells.proofs.switches.make_switches.Given as goal

abbrev pub invariant-loop-group : goal.invariant-loop-group
invariant-loop-group l = IsSwitching l.names l.pgs l.groups l.initial.faults l.place (drop l.group-index l.groups) l.faults l.switches
