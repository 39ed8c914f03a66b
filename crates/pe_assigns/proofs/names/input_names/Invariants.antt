use Rattle.std.proofs.Common.{◌≡◌, map, take}
use Rattle.std.specs.Prelude.{filter}
use Rattle.pe_assigns.specs.Form.{port_name, is_input_port}
use Rattle.pe_assigns.proofs.names.input_names.Given as goal

abbrev pub invariant-loop-port : goal.invariant-loop-port
invariant-loop-port l = l.names ≡ map port_name (filter is_input_port (take l.port-index l.port-items))
