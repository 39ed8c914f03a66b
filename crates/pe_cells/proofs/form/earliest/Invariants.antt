use Rattle.std.proofs.Common.{◌≡◌, length}
use Rattle.pe_cells.specs.Form.{earliest_with, earliest}
use Rattle.pe_cells.proofs.form.earliest.Given as goal

abbrev pub invariant-loop-fault : goal.invariant-loop-fault
invariant-loop-fault l = earliest_with l.left l.best ≡ earliest l.fn.faults

abbrev pub decreases-loop-fault : goal.decreases-loop-fault
decreases-loop-fault l = length l.left
