use Rattle.std.proofs.Common.{◌≡◌, ◌++◌, take}
use Rattle.pe_cells.specs.Form.{excluded_attrs}
use Rattle.pe_cells.proofs.form.add_excluded_attrs.Given as goal

abbrev pub invariant-loop-attr : goal.invariant-loop-attr
invariant-loop-attr l = l.faults ≡ l.initial.faults ++ excluded_attrs (take l.attr-index l.attrs)
