use Rattle.std.proofs.Common.{◌≡◌, drop}
use Rattle.pe_instances.specs.Wired.{are_ordered}
use Rattle.pe_instances.proofs.wiring.are_ordered.Given as goal

abbrev pub invariant-loop-instance : goal.invariant-loop-instance
invariant-loop-instance l = are_ordered l.c l.known (drop l.instance-index l.instance-items) ≡ are_ordered l.c l.c.given l.c.netlist.instances
