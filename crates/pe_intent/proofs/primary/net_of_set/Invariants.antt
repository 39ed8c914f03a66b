use Rattle.std.proofs.Common.{◌≡◌, drop}
use Rattle.std.specs.Prelude.{find}
use Rattle.pe_intent.specs.Domain.{is_set}
use Rattle.pe_intent.proofs.primary.net_of_set.Given as goal

abbrev pub invariant-loop-command : goal.invariant-loop-command
invariant-loop-command l = find (is_set l.name) l.commands ≡ find (is_set l.name) (drop l.command-index l.commands)
