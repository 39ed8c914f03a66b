use Rattle.std.proofs.Common.{◌≡◌, take}
use Rattle.pe_cells.specs.Naming.{signal_names}
use Rattle.pe_cells.proofs.naming.make_signal_names.Given as goal

abbrev pub invariant-loop-group : goal.invariant-loop-group
invariant-loop-group l = l.names ≡ signal_names (take l.group-index l.groups)
