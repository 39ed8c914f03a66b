use Rattle.std.proofs.Common.{◌≡◌, ◌++◌, ◌≤◌, drop}
use Rattle.pe_assigns.specs.Begin.{start_of_ports}
use Rattle.pe_assigns.proofs.settling.add_ports.Given as goal

abbrev pub invariant-loop-port : goal.invariant-loop-port
invariant-loop-port l = record {
  few : l.count ≤ l.port-index;
  done : l.values.items ++ start_of_ports (drop l.port-index l.ports) l.count l.inputs ≡ l.initial.values.items ++ start_of_ports l.ports 0 l.inputs;
}
