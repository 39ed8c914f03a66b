use Rattle.std.proofs.Common.{◌≡◌, ◌++◌, take}
use Rattle.std.specs.List.{flat_map}
use Rattle.pe_instances.specs.Pins.{net_list, net_driven}
use Rattle.pe_instances.proofs.wiring.add_driven.Given as goal

abbrev pub invariant-loop-signal : goal.invariant-loop-signal
invariant-loop-signal l = l.names ≡ l.initial.names ++ flat_map (λ s. net_list (net_driven l.instance s)) (take l.signal-index l.signal-items)
