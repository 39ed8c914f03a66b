use Rattle.std.proofs.Common.{drop}
use Rattle.std.specs.List.{flat_map}
use Rattle.pe_base.specs.Names.{HasSameNames}
use Rattle.pe_instances.specs.Pins.{net_list, net_driven}
use Rattle.pe_instances.specs.Wired.{known_with}
use Rattle.pe_instances.proofs.wiring.learn.Given as goal

abbrev pub invariant-loop-signal : goal.invariant-loop-signal
invariant-loop-signal l = HasSameNames (known_with (flat_map (λ s. net_list (net_driven l.instance s)) (drop l.signal-index l.signal-items)) l.known) (known_with (flat_map (λ s. net_list (net_driven l.instance s)) l.signal-items) l.initial.known)
