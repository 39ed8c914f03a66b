use Rattle.std.proofs.Common.{◌≡◌, take}
use Rattle.pe_refute.specs.Entries.{cited_of}
use Rattle.pe_refute.proofs.admit.gather.Given as goal

abbrev pub invariant-loop-place : goal.invariant-loop-place
invariant-loop-place l = l.cited ≡ cited_of l.seen (take l.place-index l.cites)
