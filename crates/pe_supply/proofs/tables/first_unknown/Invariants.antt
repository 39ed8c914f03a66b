use Rattle.std.proofs.Common.{◌≡◌, drop}
use Rattle.pe_supply.specs.Tables.{first_unknown}
use Rattle.pe_supply.proofs.tables.first_unknown.Given as goal

abbrev pub invariant-loop-row : goal.invariant-loop-row
invariant-loop-row l = first_unknown l.states.names l.states.states l.table l.rows ≡ first_unknown l.states.names l.states.states l.table (drop l.row-index l.rows)
