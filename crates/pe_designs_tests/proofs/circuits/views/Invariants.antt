use Rattle.std.specs.List.{All}
use Rattle.pe_cells.specs.WellFormed.{IsWellFormed}
use Rattle.pe_designs_tests.proofs.circuits.views.Given as goal

abbrev pub invariant-loop-cell : goal.invariant-loop-cell
invariant-loop-cell l = All IsWellFormed l.views
