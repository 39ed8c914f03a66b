use Rattle.std.proofs.Common.{◌≡◌, take}
use Rattle.std.specs.List.{flat_map}
use Rattle.pe_instances.specs.Pins.{nets_driven, view_of}
use Rattle.pe_instances.proofs.wiring.targets.Given as goal

abbrev pub invariant-loop-instance : goal.invariant-loop-instance
invariant-loop-instance l = l.names ≡ flat_map (λ i. nets_driven i (view_of l.c i.cell)) (take l.instance-index l.instance-items)
