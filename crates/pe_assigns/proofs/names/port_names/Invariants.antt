use Rattle.std.proofs.Common.{◌≡◌, map, take}
use Rattle.pe_assigns.specs.Form.{port_name}
use Rattle.pe_assigns.proofs.names.port_names.Given as goal

abbrev pub invariant-loop-port : goal.invariant-loop-port
invariant-loop-port l = l.names ≡ map port_name (take l.port-index l.port-items)
