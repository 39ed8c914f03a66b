use Rattle.std.proofs.Common.{◌+◌, take, sym, subst}
use Rattle.std.specs.List.{All}
use Rattle.std.proofs.lemmas.List.Elements.{All-push}
use Rattle.pe_cells.specs.WellFormed.{IsWellFormed}
use Rattle.pe_front.specs.Views.{AreViews}
use Rattle.pe_front.proofs.Viewed.{viewed_more, refused_at}
use Rattle.pe_front.proofs.views.views.Goals as goal

pub returns-in-Err-clause-refused : goal.returns-in-Err-clause-refused
returns-in-Err-clause-refused c =
    refused_at c.args.library.now c.args.cells.now c.loop-cell.views c.loop-cell.cell-index c.cell-item.result c.in-Err.fault c.loop-cell-test.true c.cell-item.is c.loop-cell.invariant.0 c.in-Err.ensures.refused

pub loop-cell-preserved : goal.loop-cell-preserved
loop-cell-preserved c = (
  subst (λ vs. AreViews c.args.library.now (take (c.loop-cell.cell-index + 1) c.args.cells.now) vs) (sym c.in_ok-add-in-Ok.ensures)
      (viewed_more c.args.library.now c.args.cells.now c.loop-cell.views c.loop-cell.cell-index c.cell-item.result c.in-Ok.view c.loop-cell-test.true c.cell-item.is c.loop-cell.invariant.0 c.in-Ok.ensures.found),
  subst (λ vs. All IsWellFormed vs) (sym c.in_ok-add-in-Ok.ensures) (All-push IsWellFormed c.loop-cell.views c.in-Ok.view c.loop-cell.invariant.1 c.in-Ok.ensures.well_formed),
)
