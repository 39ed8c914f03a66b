use Rattle.std.proofs.Common.{◌∙◌, List, subst}
use Rattle.pe_cells.specs.declared.cell.CellView.{CellView}
use Rattle.pe_cells.specs.declared.fault.CellFault.{CellFault}
use Rattle.pe_instances.specs.Form.{used_cells}
use Rattle.pe_front.specs.declared.fault.CheckFault.TheVariants.{Refused}
use Rattle.pe_front.specs.declared.fault.Fault.TheVariants.{Cell}
use Rattle.pe_front.specs.declared.fault.Part.TheVariants.{Lib}
use Rattle.pe_front.specs.Views.{AreViews, IsFirstRefused, AreUnviewed}
use Rattle.pe_front.specs.Given.{FromSupplies, FromViews}
use Rattle.pe_front.proofs.Answering.{found_on, unviewed}
use Rattle.pe_front.proofs.front.from_views.Goals as goal

pub returns-in-Ok-clause-given : goal.returns-in-Ok-clause-given
unfolding FromViews
returns-in-Ok-clause-given c =
    let library = c.args.library.now in
    let cells = used_cells c.args.netlist in
    found_on (List CellView) CellFault (AreViews library cells) (IsFirstRefused library cells) (λ f. Refused Lib (Cell f)) (FromSupplies c.args.m c.args.intent.now c.args.netlist)
    c.in-Ok.views c.from_supplies.result (subst (λ cs. AreViews library cs c.in-Ok.views) (c.as_slice.ensures ∙ c.in_ok-cells.ensures) c.in-Ok.ensures.found) c.from_supplies.ensures.given

pub returns-in-Err-clause-given : goal.returns-in-Err-clause-given
unfolding FromViews
returns-in-Err-clause-given c =
    let library = c.args.library.now in
    unviewed library (used_cells c.args.netlist) (FromSupplies c.args.m c.args.intent.now c.args.netlist) c.in-Err.fault c.cell_refusal.result
    (subst (λ cs. AreUnviewed library cs c.in-Err.fault) (c.as_slice.ensures ∙ c.in_ok-cells.ensures) c.in-Err.ensures.refused) c.cell_refusal.ensures
