use Rattle.std.proofs.Common.{◌≡◌, drop}
use Rattle.pe_intent.specs.Domain.{top_of}
use Rattle.pe_intent.proofs.form.top.Given as goal

abbrev pub invariant-loop-command : goal.invariant-loop-command
invariant-loop-command l = top_of l.intent.commands ≡ top_of (drop l.command-index l.intent.commands)
