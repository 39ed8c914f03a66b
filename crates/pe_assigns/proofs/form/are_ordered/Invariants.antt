use Rattle.std.proofs.Common.{◌≡◌, drop}
use Rattle.std.specs.List.{flat_map}
use Rattle.pe_assigns.specs.Form.{input_names, assigns, assigns_in, are_ordered}
use Rattle.pe_assigns.proofs.form.are_ordered.Given as goal

abbrev pub invariant-loop-item : goal.invariant-loop-item
invariant-loop-item l = are_ordered l.known (flat_map assigns_in (drop l.item-index l.item-items)) ≡ are_ordered (input_names l.m) (assigns l.m)
