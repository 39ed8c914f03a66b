use Rattle.std.proofs.Common.{take}
use Rattle.pe_solver.specs.Masks.{IsMask}
use Rattle.pe_solver.proofs.store.mask_of.Given as goal

abbrev pub invariant-loop-l : goal.invariant-loop-l
invariant-loop-l l = IsMask (take l.l-index l.clause) l.mask
