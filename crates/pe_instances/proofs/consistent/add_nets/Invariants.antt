use Rattle.std.proofs.Common.{◌≡◌, ◌++◌, take}
use Rattle.std.specs.List.{flat_map}
use Rattle.pe_instances.specs.Pins.{net_list}
use Rattle.pe_instances.proofs.consistent.add_nets.Given as goal

abbrev pub invariant-loop-c : goal.invariant-loop-c
invariant-loop-c l = l.found ≡ l.initial.found ++ flat_map (λ c. net_list c.net) (take l.c-index l.c-items)
