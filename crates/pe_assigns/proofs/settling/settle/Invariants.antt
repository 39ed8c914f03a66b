use Rattle.std.proofs.Common.{◌≡◌, drop}
use Rattle.std.specs.List.{flat_map}
use Rattle.pe_assigns.specs.Form.{assigns, assigns_in}
use Rattle.pe_assigns.specs.Begin.{start_of, written}
use Rattle.pe_assigns.proofs.settling.settle.Given as goal

abbrev pub invariant-loop-item : goal.invariant-loop-item
invariant-loop-item l =
    written l.nets l.on l.values.items (flat_map assigns_in (drop l.item-index l.item-items)) ≡ written l.nets l.on (start_of l.m l.inputs) (assigns l.m)
