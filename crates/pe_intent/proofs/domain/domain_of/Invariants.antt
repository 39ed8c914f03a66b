use Rattle.std.proofs.Common.{◌≡◌, ◌++◌, drop}
use Rattle.std.specs.Prelude.{option_to_list}
use Rattle.std.specs.Option.{option_map}
use Rattle.pe_intent.specs.Domain.{seen, domains}
use Rattle.pe_intent.proofs.domain.domain_of.Given as goal

abbrev pub invariant-loop-command : goal.invariant-loop-command
invariant-loop-command l = domains l.commands ≡ option_to_list (option_map seen l.found) ++ domains (drop l.command-index l.commands)
