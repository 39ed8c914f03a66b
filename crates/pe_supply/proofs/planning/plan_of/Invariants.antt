use Rattle.std.proofs.Common.{◌≡◌, drop}
use Rattle.pe_supply.specs.Plans.{joined, plan_of}
use Rattle.pe_supply.proofs.planning.plan_of.Given as goal

abbrev pub invariant-loop-command : goal.invariant-loop-command
invariant-loop-command l = joined l.plan (plan_of (drop l.command-index l.commands)) ≡ plan_of l.commands
