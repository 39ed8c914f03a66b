use Rattle.std.proofs.Common.{take}
use Rattle.pe_supply.specs.Lookups.{AreFirsts}
use Rattle.pe_supply.proofs.lookup.Lookup.of.Given as goal

abbrev pub invariant-loop-pair : goal.invariant-loop-pair
invariant-loop-pair l = AreFirsts (take l.pair-index l.names) l.index l.numbers
