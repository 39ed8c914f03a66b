use Rattle.std.proofs.Common.{◌≡◌, drop}
use Rattle.pe_cells.specs.Naming.{pins_of}
use Rattle.pe_cells.specs.Viewing.{retention_pin_from, retention_pin}
use Rattle.pe_cells.proofs.retaining.retention_pin.Given as goal

abbrev pub invariant-loop-group : goal.invariant-loop-group
invariant-loop-group l = retention_pin l.class l.groups ≡ retention_pin_from l.class l.place (pins_of (drop l.group-index l.groups))
