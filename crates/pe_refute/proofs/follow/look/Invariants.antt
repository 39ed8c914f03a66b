use Rattle.std.proofs.Common.{take}
use Rattle.pe_refute.specs.Known.{knows_of}
use Rattle.pe_refute.proofs.Sight.{SoFar}
use Rattle.pe_refute.proofs.follow.look.Given as goal

abbrev pub invariant-loop-l : goal.invariant-loop-l
invariant-loop-l l = SoFar (knows_of l.scratch) (take l.l-index l.clause) l.unit
