use Rattle.std.proofs.Common.{◌-◌, length}
use Rattle.pe_rail_ops.proofs.extension.+rest.Given as goal

abbrev pub decreases-rest : goal.decreases-rest
decreases-rest l = length l.pins.now - length l.fixed.now.items
