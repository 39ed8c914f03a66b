-- The views of cells in a library, and why one of them has none.
use Rattle.std.specs.Prelude.{◌⊎◌, ℕ, List, [], ◌∷◌, Err}
use Rattle.std.specs.List.{AllZip}
use Rattle.pe_liberty_read.specs.declared.tree.Group.{Group}
use Rattle.pe_cells.specs.declared.cell.CellView.{CellView}
use Rattle.pe_cells.specs.declared.fault.CellFault.{CellFault}
use Rattle.pe_cells.specs.declared.fault.CellFault.TheVariants.{Memory}
use Rattle.pe_cells.specs.Viewing.{IsView, IsOutcome}

-- each cell has its view
abbrev pub AreViews : Group → List (List ℕ) → List CellView → Type 0
AreViews library cells views = AllZip (IsView library) cells views

-- of the cells, the first that has none has none for this reason
abbrev pub IsFirstRefused : Group → List (List ℕ) → CellFault → Type 0
IsFirstRefused library [] fault = ⊥
IsFirstRefused library (cell ∷ cells) fault =
    IsOutcome library cell (Err fault) ⊎ ((view : CellView) × IsView library cell view × IsFirstRefused library cells fault)

-- likewise, unless memory ran out
abbrev pub AreUnviewed : Group → List (List ℕ) → CellFault → Type 0
AreUnviewed library cells Memory = Unit {0}
AreUnviewed library cells fault = IsFirstRefused library cells fault
