use Rattle.std.proofs.Common.{◌≡◌, take, map}
use Rattle.pe_supply.specs.Tables.{row_in}
use Rattle.pe_supply.proofs.tables.rows_in.Given as goal

abbrev pub invariant-loop-text : goal.invariant-loop-text
invariant-loop-text l = l.rows ≡ map (row_in l.states.names l.states.states l.table) (take l.text-index l.texts)
