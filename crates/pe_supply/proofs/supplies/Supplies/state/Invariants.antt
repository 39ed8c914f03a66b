use Rattle.std.proofs.Common.{◌≡◌, map}
use Rattle.std.specs.List.{range_with_len}
use Rattle.pe_supply.specs.States.{state_of, conducting}
use Rattle.pe_supply.specs.WellFormed.{count_of}
use Rattle.pe_supply.proofs.supplies.Supplies.state.Given as goal

abbrev pub invariant-loop-supply : goal.invariant-loop-supply
invariant-loop-supply l = l.states ≡ map (state_of l.self l.roots (conducting l.self.switches l.controls) (count_of l.self)) (range_with_len 0 l.supply)
