use Rattle.std.proofs.Common.{◌≡◌, drop}
use Rattle.pe_supply.specs.Rows.{row_holds}
use Rattle.pe_supply.proofs.rows.holds.Given as goal

abbrev pub invariant-loop-i : goal.invariant-loop-i
invariant-loop-i l = row_holds l.row.levels l.table l.states ≡ row_holds (drop l.i l.row.levels) (drop l.i l.table) l.states
