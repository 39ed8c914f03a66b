use Rattle.std.proofs.Common.{◌≡◌, take}
use Rattle.pe_cells.specs.Form.{places_of}
use Rattle.pe_cells.proofs.repeats.make_places.Given as goal

abbrev pub invariant-loop-group : goal.invariant-loop-group
invariant-loop-group l = l.places ≡ places_of l.class (take l.group-index l.groups)
