use Rattle.std.proofs.Common.{◌≡◌, ◌+◌, drop}
use Rattle.pe_base.specs.Names.{place_of}
use Rattle.pe_base.proofs.name.place_of.Given as goal

abbrev pub invariant-loop-i : goal.invariant-loop-i
invariant-loop-i l = place_of l.names l.name ≡ l.i + place_of (drop l.i l.names) l.name
