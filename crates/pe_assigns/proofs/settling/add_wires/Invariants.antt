use Rattle.std.proofs.Common.{◌≡◌, ◌++◌, map, take}
use Rattle.std.specs.List.{flat_map}
use Rattle.pe_base.specs.declared.value.Val.TheVariants.{Corrupt}
use Rattle.pe_assigns.specs.Form.{wires_in}
use Rattle.pe_assigns.proofs.settling.add_wires.Given as goal

abbrev pub invariant-loop-item : goal.invariant-loop-item
invariant-loop-item l = l.values.items ≡ l.initial.values.items ++ map (λ w. Corrupt) (flat_map wires_in (take l.item-index l.items))
