use Rattle.std.proofs.Common.{◌<◌, ℕ}
use Rattle.pe_supply.specs.Drivers.{IsLooped}
use Rattle.pe_supply.proofs.drivers.first_looped.Given as goal

abbrev pub invariant-loop-supply : goal.invariant-loop-supply
invariant-loop-supply l = (j : ℕ) → j < l.supply → IsLooped l.edges j → ⊥
