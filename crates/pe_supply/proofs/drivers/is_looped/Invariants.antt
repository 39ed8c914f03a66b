use Rattle.std.proofs.Common.{◌<◌, ◌≤◌, ℕ}
use Rattle.pe_supply.specs.Drivers.{Reaches}
use Rattle.pe_supply.proofs.drivers.is_looped.Given as goal

abbrev pub invariant-loop-step : goal.invariant-loop-step
invariant-loop-step l = record { here : Reaches l.edges l._step l.supply l.at; not_yet : (m : ℕ) → 0 < m → m ≤ l._step → Reaches l.edges m l.supply l.supply → ⊥ }
