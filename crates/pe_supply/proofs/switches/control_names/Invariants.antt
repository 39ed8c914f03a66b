use Rattle.std.proofs.Common.{◌≡◌, take, map}
use Rattle.pe_supply.proofs.switches.control_names.Given as goal

abbrev pub invariant-loop-control : goal.invariant-loop-control
invariant-loop-control l = l.names ≡ map (λ c. c.0) (take l.control-index l.controls)
