use Rattle.std.proofs.Common.{◌≡◌, ◌++◌, take}
use Rattle.pe_cells.specs.Form.{class_places}
use Rattle.pe_cells.proofs.repeats.add_class_places.Given as goal

abbrev pub invariant-loop-attr : goal.invariant-loop-attr
invariant-loop-attr l = l.places ≡ l.initial.places ++ class_places l.class (take l.attr-index l.attrs)
