use Rattle.std.proofs.Common.{sym, subst}
use Rattle.std.specs.List.{All}
use Rattle.std.proofs.lemmas.List.Elements.{All-push}
use Rattle.pe_cells.specs.WellFormed.{IsWellFormed}
use Rattle.pe_designs_tests.proofs.circuits.views.Goals as goal

pub loop-cell-preserved : goal.loop-cell-preserved
loop-cell-preserved c =
    subst (All IsWellFormed) (sym c.in_ok-push.ensures.ok) (All-push IsWellFormed c.loop-cell.views c.in_ok-made.made c.loop-cell.invariant c.in_ok-made.ensures.well_formed)
