use Rattle.std.proofs.Common.{◌≡◌, ◌⊎◌, List, ℕ, None, Result, Err, inr, sym, ap, ◌∙◌}
use Rattle.pe_liberty_read.specs.declared.tree.Group.{Group}
use Rattle.pe_cells.specs.declared.cell.CellView.{CellView}
use Rattle.pe_cells.specs.declared.fault.CellFault.{CellFault}
use Rattle.pe_cells.specs.declared.fault.CellFault.TheVariants.{Memory, NoCell}
use Rattle.pe_cells.specs.Looking.{cell_in}
use Rattle.pe_cells.specs.Viewing.{IsOutcome}
use Rattle.pe_cells.proofs.Outcomes.{told, exact, found_of, refused_of, formed_of}
use Rattle.pe_cells.proofs.Shorts.{cell_short}
use Rattle.pe_cells.proofs.viewing.view.Goals as goal

abbrev Answer : Type 0
Answer = Result CellView CellFault

abbrev Told : Group → List ℕ → Answer → Type 0
Told library name r = (r ≡ Err Memory) ⊎ IsOutcome library name r

pub view_cell-answer-requires : goal.view_cell-answer-requires
view_cell-answer-requires c = cell_short c.args.library.now c.bytes.result.now c.in-Some.group.now c.requires (sym c.in-Some.ensures)

pub returns-in-Some-clause-found : goal.returns-in-Some-clause-found
returns-in-Some-clause-found c =
    found_of _ _ _ (told c.args.library.now c.args.name.now c.in-Some.group.now c.view_cell-answer.result (ap (cell_in c.args.library.now) (sym c.bytes.ensures) ∙ sym c.in-Some.ensures) c.view_cell-answer.ensures)

pub returns-in-Some-clause-well_formed : goal.returns-in-Some-clause-well_formed
returns-in-Some-clause-well_formed c = formed_of c.in-Some.group.now c.args.name.now c.view_cell-answer.result c.view_cell-answer.ensures

pub returns-in-Some-clause-refused : goal.returns-in-Some-clause-refused
returns-in-Some-clause-refused c =
    refused_of _ _ _ (told c.args.library.now c.args.name.now c.in-Some.group.now c.view_cell-answer.result (ap (cell_in c.args.library.now) (sym c.bytes.ensures) ∙ sym c.in-Some.ensures) c.view_cell-answer.ensures)

pub returns-in-Some-clause-exact : goal.returns-in-Some-clause-exact
returns-in-Some-clause-exact c = λ r p.
    exact c.args.library.now c.args.name.now c.view_cell-answer.result r
    (told c.args.library.now c.args.name.now c.in-Some.group.now c.view_cell-answer.result (ap (cell_in c.args.library.now) (sym c.bytes.ensures) ∙ sym c.in-Some.ensures) c.view_cell-answer.ensures) p

-- the cell is not there
no_cell : (library : Group) (name copy bytes : List ℕ) → bytes ≡ name → copy ≡ name → cell_in library bytes ≡ None → IsOutcome library name (Err (NoCell copy))
no_cell library name copy bytes b n e = (n, ap (cell_in library) (sym b) ∙ e)

pub returns-in_ok-name-in-None-clause-refused : goal.returns-in_ok-name-in-None-clause-refused
returns-in_ok-name-in-None-clause-refused c = no_cell c.args.library.now c.args.name.now c.in_ok-name-in-None.name c.bytes.result.now c.bytes.ensures c.in_ok-name-in-None.ensures (sym c.in-None.ensures)

pub returns-in_ok-name-in-None-clause-exact : goal.returns-in_ok-name-in-None-clause-exact
returns-in_ok-name-in-None-clause-exact c = λ r p.
    exact c.args.library.now c.args.name.now (Err (NoCell c.in_ok-name-in-None.name)) r
    (inr (no_cell c.args.library.now c.args.name.now c.in_ok-name-in-None.name c.bytes.result.now c.bytes.ensures c.in_ok-name-in-None.ensures (sym c.in-None.ensures))) p
