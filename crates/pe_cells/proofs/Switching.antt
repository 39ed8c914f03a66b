-- The switches of a cell, group by group.
use Rattle.std.proofs.Common.{◌≡◌, ℕ, List, [], ◌++◌}
use Rattle.std.specs.Prelude.{map}
use Rattle.pe_liberty_read.specs.declared.tree.Group.{Group}
use Rattle.pe_cells.specs.declared.cell.CellSwitch.{CellSwitch}
use Rattle.pe_cells.specs.declared.cell.Pg.{Pg}
use Rattle.pe_cells.specs.declared.form.Found.{Found}
use Rattle.pe_cells.specs.Functions.{Judges, Adds}
use Rattle.pe_cells.specs.Viewing.{Output, IsSwitch, switch_use, outputs_from, outputs_of}

-- the switches of the groups before are made; the rest begin with this place
pub record IsSwitching (names : List (List ℕ)) (pgs : List Pg) (groups : List Group) (old : List Found) (place : ℕ) (left : List Group) (faults : List Found) (switches : List CellSwitch) : Type 0 where
  pub before : List Output
  pub are : outputs_of groups ≡ before ++ outputs_from place left
  pub judged : Judges (map (switch_use names) before) old faults
  pub made : faults ≡ [] → Adds Output CellSwitch (IsSwitch names pgs) before [] switches
