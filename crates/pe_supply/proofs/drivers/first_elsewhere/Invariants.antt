use Rattle.std.proofs.Common.{◌≡◌, drop, take, []}
use Rattle.pe_supply.specs.Drivers.{first_elsewhere}
use Rattle.pe_supply.proofs.Elsewhere.{AreKept}
use Rattle.pe_supply.proofs.drivers.first_elsewhere.Given as goal

abbrev pub invariant-loop-tie : goal.invariant-loop-tie
invariant-loop-tie l = record { so_far : first_elsewhere l.nets [] l.ties ≡ first_elsewhere l.nets (take l.tie-index l.ties) (drop l.tie-index l.ties); kept : AreKept (take l.tie-index l.ties) l.ports l.firsts }
