use Rattle.std.proofs.Common.{◌≡◌, drop}
use Rattle.std.specs.Prelude.{find}
use Rattle.std.specs.List.{zip}
use Rattle.pe_supply.specs.Tables.{is_unknown}
use Rattle.pe_supply.proofs.tables.unknown_in.Given as goal

abbrev pub invariant-loop-i : goal.invariant-loop-i
invariant-loop-i l = find (is_unknown l.states.names l.states.states) (zip l.table l.words) ≡ find (is_unknown l.states.names l.states.states) (zip (drop l.i l.table) (drop l.i l.words))
