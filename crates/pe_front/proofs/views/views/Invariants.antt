use Rattle.std.proofs.Common.{take}
use Rattle.std.specs.List.{All}
use Rattle.pe_cells.specs.WellFormed.{IsWellFormed}
use Rattle.pe_front.specs.Views.{AreViews}
use Rattle.pe_front.proofs.views.views.Given as goal

abbrev pub invariant-loop-cell : goal.invariant-loop-cell
invariant-loop-cell l = AreViews l.library (take l.cell-index l.cells) l.views × All IsWellFormed l.views
