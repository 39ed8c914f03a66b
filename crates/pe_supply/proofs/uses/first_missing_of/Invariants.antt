use Rattle.std.proofs.Common.{◌≡◌, drop}
use Rattle.std.specs.Prelude.{find}
use Rattle.pe_supply.specs.Uses.{is_missing_among}
use Rattle.pe_supply.proofs.uses.first_missing_of.Given as goal

abbrev pub invariant-loop-used : goal.invariant-loop-used
invariant-loop-used l = find (is_missing_among l.names l.ports l.sets l.tables) l.uses ≡ find (is_missing_among l.names l.ports l.sets l.tables) (drop l.used-index l.uses)
