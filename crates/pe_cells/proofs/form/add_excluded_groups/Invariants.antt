use Rattle.std.proofs.Common.{◌≡◌, ◌++◌, take}
use Rattle.pe_cells.specs.Form.{excluded_groups}
use Rattle.pe_cells.proofs.form.add_excluded_groups.Given as goal

abbrev pub invariant-loop-group : goal.invariant-loop-group
invariant-loop-group l = l.faults ≡ l.initial.faults ++ excluded_groups (take l.group-index l.groups)
