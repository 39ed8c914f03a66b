use Rattle.std.proofs.Common.{◌≡◌}
use Rattle.std.specs.Prelude.{filter}
use Rattle.std.specs.List.{range_with_len}
use Rattle.pe_supply.specs.Drivers.{is_root}
use Rattle.pe_supply.proofs.drivers.roots.Given as goal

abbrev pub invariant-loop-supply : goal.invariant-loop-supply
invariant-loop-supply l = l.roots ≡ filter (is_root l.edges) (range_with_len 0 l.supply)
