use Rattle.std.proofs.Common.{◌%◌}
use Rattle.pe_solver.specs.Masks.{buckets}
use Rattle.pe_solver.proofs.LinkLemmas.{IsPassed}
use Rattle.pe_solver.proofs.same.find_same.Given as goal

abbrev pub invariant-loop-above : goal.invariant-loop-above
invariant-loop-above l = IsPassed l.all l.clause (l.mask % buckets) l.above

abbrev pub decreases-loop-above : goal.decreases-loop-above
decreases-loop-above l = l.above
