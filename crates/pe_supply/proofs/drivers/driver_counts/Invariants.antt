use Rattle.std.proofs.Common.{take}
use Rattle.pe_supply.specs.Drivers.{AreCounts}
use Rattle.pe_supply.proofs.drivers.driver_counts.Given as goal

abbrev pub invariant-loop-edge : goal.invariant-loop-edge
invariant-loop-edge l = AreCounts (take l.edge-index l.edges) l.fn.count l.counts.items
