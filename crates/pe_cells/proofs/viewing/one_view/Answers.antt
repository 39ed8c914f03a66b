use Rattle.std.proofs.Common.{◌≡◌, Result, Ok, refl}
use Rattle.pe_cells.specs.declared.cell.CellView.{CellView}
use Rattle.pe_cells.specs.declared.fault.CellFault.{CellFault}
use Rattle.pe_cells.proofs.Outcomes.{one_outcome}
use Rattle.pe_cells.proofs.viewing.one_view.Goals as goal

abbrev Answer : Type 0
Answer = Result CellView CellFault

same_view : (v w : CellView) (a b : Answer) → a ≡ Ok v → b ≡ Ok w → a ≡ b → v ≡ w
same_view v w a b p q r = cc

pub returns-clause-outcome : goal.returns-clause-outcome
returns-clause-outcome c = one_outcome

pub returns-clause-view : goal.returns-clause-view
returns-clause-view c = λ library name v w p q. same_view v w (Ok v) (Ok w) refl refl (one_outcome library name (Ok v) (Ok w) p q)
