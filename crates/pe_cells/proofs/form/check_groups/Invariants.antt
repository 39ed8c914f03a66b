use Rattle.std.proofs.Common.{◌≡◌, ◌++◌, take}
use Rattle.pe_cells.specs.Form.{all_group_faults}
use Rattle.pe_cells.proofs.form.check_groups.Given as goal

abbrev pub invariant-loop-group : goal.invariant-loop-group
invariant-loop-group l = l.faults ≡ l.initial.faults ++ all_group_faults l.pgs (take l.group-index l.groups)
