use Rattle.std.proofs.Common.{◌≡◌, not, map, take}
use Rattle.std.specs.Prelude.{filter}
use Rattle.pe_base.specs.Names.{has_name}
use Rattle.pe_instances.specs.Fit.{supply_port}
use Rattle.pe_instances.proofs.circuits.make_supplies.Given as goal

abbrev pub invariant-loop-input : goal.invariant-loop-input
invariant-loop-input l = l.ports ≡ map (supply_port l.names) (filter (λ name. not (has_name l.given name)) (take l.input-index l.input-items))
