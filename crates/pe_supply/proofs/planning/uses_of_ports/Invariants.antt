use Rattle.std.proofs.Common.{◌≡◌, take, map}
use Rattle.pe_supply.specs.declared.plan.Use.TheVariants.{Port}
use Rattle.pe_supply.proofs.planning.uses_of_ports.Given as goal

abbrev pub invariant-loop-name : goal.invariant-loop-name
invariant-loop-name l = l.uses ≡ map (λ port. Port port) (take l.name-index l.names)
