use Rattle.std.proofs.Common.{◌≡◌, drop}
use Rattle.pe_supply.specs.Drivers.{is_root}
use Rattle.pe_supply.proofs.drivers.is_root.Given as goal

abbrev pub invariant-loop-edge : goal.invariant-loop-edge
invariant-loop-edge l = is_root l.edges l.supply ≡ is_root (drop l.edge-index l.edges) l.supply
