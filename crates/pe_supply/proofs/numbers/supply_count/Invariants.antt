use Rattle.std.proofs.Common.{◌≡◌, drop, max}
use Rattle.pe_supply.specs.Numbers.{supply_count}
use Rattle.pe_supply.proofs.numbers.supply_count.Given as goal

abbrev pub invariant-loop-pair : goal.invariant-loop-pair
invariant-loop-pair l = supply_count l.names ≡ max l.count (supply_count (drop l.pair-index l.names))
