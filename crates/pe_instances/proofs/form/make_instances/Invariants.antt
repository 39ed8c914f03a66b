use Rattle.std.proofs.Common.{◌≡◌, take}
use Rattle.std.specs.List.{flat_map}
use Rattle.pe_instances.specs.Form.{instances_in}
use Rattle.pe_instances.proofs.form.make_instances.Given as goal

abbrev pub invariant-loop-item : goal.invariant-loop-item
invariant-loop-item l = l.made ≡ flat_map instances_in (take l.item-index l.items)
