use Rattle.std.proofs.Common.{◌≡◌, drop}
use Rattle.std.specs.Prelude.{find}
use Rattle.pe_supply.specs.Steps.{is_absent}
use Rattle.pe_supply.proofs.permitted.first_absent.Given as goal

abbrev pub invariant-loop-name : goal.invariant-loop-name
invariant-loop-name l = find (is_absent l.rows) l.names ≡ find (is_absent l.rows) (drop l.name-index l.names)
