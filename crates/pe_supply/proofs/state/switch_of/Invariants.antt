use Rattle.std.proofs.Common.{◌≡◌, ◌+◌, drop, map}
use Rattle.pe_supply.specs.WellFormed.{place}
use Rattle.pe_supply.proofs.state.switch_of.Given as goal

abbrev pub invariant-loop-i : goal.invariant-loop-i
invariant-loop-i l = place (map (λ w. w.output) l.switches) l.supply ≡ l.i + place (map (λ w. w.output) (drop l.i l.switches)) l.supply
