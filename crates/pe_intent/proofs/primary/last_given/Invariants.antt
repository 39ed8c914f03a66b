use Rattle.std.proofs.Common.{◌≡◌, drop}
use Rattle.std.specs.Option.{option_or, option_copied}
use Rattle.pe_intent.specs.Domain.{net_given, last_given}
use Rattle.pe_intent.proofs.primary.last_given.Given as goal

abbrev pub invariant-loop-command : goal.invariant-loop-command
invariant-loop-command l =
    last_given (net_given l.commands l.function l.domain) l.commands ≡ option_or (last_given (net_given l.commands l.function l.domain) (drop l.command-index l.commands)) (option_copied l.last)
