use Rattle.std.proofs.Common.{◌≡◌, take}
use Rattle.pe_cells.specs.Form.{ff_places}
use Rattle.pe_cells.proofs.repeats.make_ff_places.Given as goal

abbrev pub invariant-loop-group : goal.invariant-loop-group
invariant-loop-group l = l.places ≡ ff_places (take l.group-index l.groups)
