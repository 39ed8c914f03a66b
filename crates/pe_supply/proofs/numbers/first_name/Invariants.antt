use Rattle.std.proofs.Common.{◌≡◌, drop}
use Rattle.pe_supply.specs.Numbers.{first_name}
use Rattle.pe_supply.proofs.numbers.first_name.Given as goal

abbrev pub invariant-loop-pair : goal.invariant-loop-pair
invariant-loop-pair l = first_name l.names l.supply ≡ first_name (drop l.pair-index l.names) l.supply
