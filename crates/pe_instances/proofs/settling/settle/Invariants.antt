use Rattle.std.proofs.Common.{◌≡◌, drop}
use Rattle.pe_instances.specs.Pins.{drives_in, drives}
use Rattle.pe_instances.specs.Begin.{start_of, written}
use Rattle.pe_instances.proofs.settling.settle.Given as goal

abbrev pub invariant-loop-instance : goal.invariant-loop-instance
invariant-loop-instance l = written l.c l.nets l.states l.values.items (drives_in l.c (drop l.instance-index l.instance-items)) ≡ written l.c l.nets l.states (start_of l.c l.inputs) (drives l.c)
