use Rattle.std.proofs.Common.{◌≡◌, true, take}
use Rattle.std.specs.List.{list_all}
use Rattle.pe_instances.specs.Wired.{is_plain_cell}
use Rattle.pe_instances.proofs.wiring.are_plain_cells.Given as goal

abbrev pub invariant-loop-view : goal.invariant-loop-view
invariant-loop-view l = list_all is_plain_cell (take l.view-index l.views) ≡ true
