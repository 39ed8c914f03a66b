use Rattle.std.proofs.Common.{◌≡◌, drop}
use Rattle.pe_supply.specs.Drivers.{next_of}
use Rattle.pe_supply.proofs.drivers.next.Given as goal

abbrev pub invariant-loop-edge : goal.invariant-loop-edge
invariant-loop-edge l = next_of l.edges l.supply ≡ next_of (drop l.edge-index l.edges) l.supply
