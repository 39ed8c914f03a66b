use Rattle.std.proofs.Common.{◌≡◌, map, take}
use Rattle.std.specs.List.{flat_map}
use Rattle.pe_assigns.specs.Form.{assigns_in}
use Rattle.pe_assigns.proofs.names.targets.Given as goal

abbrev pub invariant-loop-item : goal.invariant-loop-item
invariant-loop-item l = l.names ≡ map (λ a. a.0) (flat_map assigns_in (take l.item-index l.item-items))
