use Rattle.std.proofs.Common.{◌≡◌, map, take}
use Rattle.std.specs.Prelude.{filter}
use Rattle.pe_assigns.specs.Form.{port_name, is_output_port}
use Rattle.pe_assigns.proofs.names.output_names.Given as goal

abbrev pub invariant-loop-port : goal.invariant-loop-port
invariant-loop-port l = l.names ≡ map port_name (filter is_output_port (take l.port-index l.port-items))
