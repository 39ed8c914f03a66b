use Rattle.std.proofs.Common.{◌≡◌, take}
use Rattle.std.specs.List.{flat_map}
use Rattle.pe_assigns.specs.Form.{wires_in}
use Rattle.pe_instances.proofs.form.make_wires.Given as goal

abbrev pub invariant-loop-item : goal.invariant-loop-item
invariant-loop-item l = l.names ≡ flat_map wires_in (take l.item-index l.items)
