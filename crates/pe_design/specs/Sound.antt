-- What holds of every design that texts give: each side has exactly one settled map in every state and for all inputs.
use Rattle.std.specs.Prelude.{◌≡◌, true, []}
use Rattle.std.specs.List.{All}
use Rattle.pe_base.specs.Names.{are_distinct}
use Rattle.pe_supply.specs.WellFormed.{IsWellFormed}
use Rattle.pe_cells.specs.WellFormed.{IsWellFormed as IsView}
use Rattle.pe_assigns.specs.Form.{is_form, input_names}
use Rattle.pe_instances.specs.Wired.{is_wired}
use Rattle.pe_design.specs.declared.design.Design.{Design}

pub record IsSound (d : Design) : Type 0 where
  pub rtl : is_form d.rtl ≡ true
  pub supplies : IsWellFormed d.supplies
  pub switches : d.supplies.switches ≡ []
  pub circuit : is_wired d.circuit ≡ true
  pub cells : are_distinct d.circuit.cells ≡ true
  pub views : All IsView d.circuit.views
  pub given : d.circuit.given ≡ input_names d.rtl
