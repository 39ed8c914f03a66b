use Rattle.std.proofs.Common.{◌≡◌, length}
use Rattle.pe_tool.proofs.read.over_limit.Given as goal

abbrev pub invariant-loop : goal.invariant-loop
invariant-loop l = length l.text ≡ l.counter
