use Rattle.std.proofs.Common.{◌≡◌, ◌++◌, take}
use Rattle.pe_cells.specs.Form.{names_places}
use Rattle.pe_cells.proofs.repeats.add_names_places.Given as goal

abbrev pub invariant-loop-name : goal.invariant-loop-name
invariant-loop-name l = l.places ≡ l.initial.places ++ names_places l.class l.attrs (take l._name-index l.names)
