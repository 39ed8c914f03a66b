use Rattle.std.proofs.Common.{◌≡◌, take, map}
use Rattle.pe_supply.specs.Keys.{state_key}
use Rattle.pe_supply.proofs.levels.state_keys.Given as goal

abbrev pub invariant-loop-state : goal.invariant-loop-state
invariant-loop-state l = l.keys ≡ map (state_key l.names) (take l.state-index l.states)
