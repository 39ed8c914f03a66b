use Rattle.std.proofs.Common.{◌≡◌, take, map}
use Rattle.pe_supply.specs.Numbers.{number_of}
use Rattle.pe_supply.proofs.tables.table_in.Given as goal

abbrev pub invariant-loop-column : goal.invariant-loop-column
invariant-loop-column l = l.table ≡ map (number_of l.names) (take l.column-index l.columns)
