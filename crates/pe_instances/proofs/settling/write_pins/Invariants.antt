use Rattle.std.proofs.Common.{◌≡◌, drop}
use Rattle.std.specs.List.{flat_map}
use Rattle.pe_instances.specs.Pins.{drives_by}
use Rattle.pe_instances.specs.Begin.{written}
use Rattle.pe_instances.proofs.settling.write_pins.Given as goal

abbrev pub invariant-loop-signal : goal.invariant-loop-signal
invariant-loop-signal l = written l.c l.nets l.states l.values (flat_map (drives_by l.instance l.view) (drop l.signal-index l.signal-items)) ≡ written l.c l.nets l.states l.initial.values (flat_map (drives_by l.instance l.view) l.signal-items)
