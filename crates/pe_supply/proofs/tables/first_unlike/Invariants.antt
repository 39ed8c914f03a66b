use Rattle.std.proofs.Common.{◌≡◌, drop}
use Rattle.pe_supply.specs.Tables.{first_unlike}
use Rattle.pe_supply.proofs.tables.first_unlike.Given as goal

abbrev pub invariant-loop-row : goal.invariant-loop-row
invariant-loop-row l = first_unlike l.width l.rows ≡ first_unlike l.width (drop l.row-index l.rows)
