use Rattle.std.proofs.Common.{◌≡◌, ◌+◌, drop}
use Rattle.pe_supply.specs.WellFormed.{place}
use Rattle.pe_supply.proofs.state.place_among.Given as goal

abbrev pub invariant-loop-i : goal.invariant-loop-i
invariant-loop-i l = place l.numbers l.number ≡ l.i + place (drop l.i l.numbers) l.number
