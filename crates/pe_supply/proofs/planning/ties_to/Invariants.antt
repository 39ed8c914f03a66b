use Rattle.std.proofs.Common.{◌≡◌, take, map}
use Rattle.pe_supply.specs.Plans.{tie_to}
use Rattle.pe_supply.proofs.planning.ties_to.Given as goal

abbrev pub invariant-loop-port : goal.invariant-loop-port
invariant-loop-port l = l.ties ≡ map (tie_to l.net) (take l.port-index l.ports)
