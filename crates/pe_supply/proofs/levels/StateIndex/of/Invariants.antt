use Rattle.std.proofs.Common.{take, map}
use Rattle.pe_supply.specs.Keys.{keyed}
use Rattle.pe_supply.specs.Lookups.{AreFirsts}
use Rattle.pe_supply.proofs.levels.StateIndex.of.Given as goal

abbrev pub invariant-loop-i : goal.invariant-loop-i
invariant-loop-i l = AreFirsts (take l.i (map (keyed l.names) l.states)) l.index l.levels
