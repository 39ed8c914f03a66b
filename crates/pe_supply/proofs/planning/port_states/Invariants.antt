use Rattle.std.proofs.Common.{◌≡◌, take, map}
use Rattle.pe_supply.specs.Plans.{port_state}
use Rattle.pe_supply.proofs.planning.port_states.Given as goal

abbrev pub invariant-loop-state : goal.invariant-loop-state
invariant-loop-state l = l.all ≡ map (port_state l.port) (take l.state-index l.states)
