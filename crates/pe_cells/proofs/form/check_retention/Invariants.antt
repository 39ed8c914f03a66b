use Rattle.std.proofs.Common.{◌≡◌, ◌++◌, take}
use Rattle.pe_cells.specs.Form.{retention_faults}
use Rattle.pe_cells.proofs.form.check_retention.Given as goal

abbrev pub invariant-loop-attr : goal.invariant-loop-attr
invariant-loop-attr l = l.faults ≡ l.initial.faults ++ retention_faults (take l.attr-index l.attrs)
