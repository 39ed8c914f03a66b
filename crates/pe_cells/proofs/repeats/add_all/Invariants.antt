use Rattle.std.proofs.Common.{◌≡◌, ◌++◌, take}
use Rattle.pe_cells.specs.Form.{all_at}
use Rattle.pe_cells.proofs.repeats.add_all.Given as goal

abbrev pub invariant-loop-place : goal.invariant-loop-place
invariant-loop-place l = l.faults ≡ l.initial.faults ++ all_at l.name (take l.place-index l.places)
