use Rattle.std.proofs.Common.{◌≡◌, drop}
use Rattle.pe_supply.specs.Numbers.{number_of}
use Rattle.pe_intent.proofs.primary.number_of.Given as goal

abbrev pub invariant-loop-pair : goal.invariant-loop-pair
invariant-loop-pair l = number_of l.names l.name ≡ number_of (drop l.pair-index l.names) l.name
