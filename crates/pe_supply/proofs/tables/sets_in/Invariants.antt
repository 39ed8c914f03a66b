use Rattle.std.proofs.Common.{◌≡◌, take, map}
use Rattle.pe_supply.specs.Tables.{set_in}
use Rattle.pe_supply.proofs.tables.sets_in.Given as goal

abbrev pub invariant-loop-text : goal.invariant-loop-text
invariant-loop-text l = l.sets ≡ map (set_in l.names) (take l.text-index l.texts)
