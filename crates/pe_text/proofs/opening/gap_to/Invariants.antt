use Rattle.std.proofs.Common.{◌≡◌, length}
use Rattle.pe_text.specs.Start.{gap_to}
use Rattle.pe_text.proofs.opening.gap_to.Given as goal

abbrev pub invariant-loop-rest : goal.invariant-loop-rest
invariant-loop-rest l = gap_to l.x l.y l.rest ≡ gap_to l.x l.y l.fn.text

abbrev pub decreases-loop-rest : goal.decreases-loop-rest
decreases-loop-rest l = length l.rest
