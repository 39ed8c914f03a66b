use Rattle.std.proofs.Common.{◌≡◌, ◌-◌}
use Rattle.std.specs.Prelude.{find}
use Rattle.std.specs.List.{range_with_len}
use Rattle.pe_supply.specs.Drivers.{is_driven_twice}
use Rattle.pe_supply.proofs.drivers.first_driven_twice.Given as goal

abbrev pub invariant-loop-supply : goal.invariant-loop-supply
invariant-loop-supply l = find (is_driven_twice l.edges) (range_with_len 0 l.count) ≡ find (is_driven_twice l.edges) (range_with_len l.supply (l.count - l.supply))
