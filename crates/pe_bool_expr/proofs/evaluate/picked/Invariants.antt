use Rattle.std.proofs.Common.{◌≡◌, drop}
use Rattle.pe_bool_expr.specs.Choices.{picked}
use Rattle.pe_bool_expr.proofs.evaluate.picked.Given as goal

abbrev pub invariant-loop-other : goal.invariant-loop-other
invariant-loop-other l = picked l.corrupt l.fn.choice l.pin ≡ picked (drop l.other-index l.corrupt) l.left l.pin
