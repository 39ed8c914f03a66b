use Rattle.std.proofs.Common.{◌≡◌, drop}
use Rattle.std.specs.Prelude.{find}
use Rattle.pe_supply.specs.Steps.{is_absent, names_in}
use Rattle.pe_supply.proofs.permitted.first_absent_in.Given as goal

abbrev pub invariant-loop-pair : goal.invariant-loop-pair
invariant-loop-pair l = find (is_absent l.rows) (names_in l.pairs) ≡ find (is_absent l.rows) (names_in (drop l.pair-index l.pairs))
