use Rattle.std.proofs.Common.{◌-◌, length}
use Rattle.pe_solver.proofs.prefixes.+close.Given as goal

abbrev pub decreases-close : goal.decreases-close
decreases-close l = length l.leaves.now - length l.prefix.now
