use Rattle.std.proofs.Common.{◌≡◌, drop}
use Rattle.pe_upf_read.specs.Names.{name_in}
use Rattle.pe_upf_read.proofs.names.name_in.Given as goal

abbrev pub invariant-loop-terminal : goal.invariant-loop-terminal
invariant-loop-terminal l = name_in l.text l.tokens l.terminals ≡ name_in l.text l.tokens (drop l.terminal-index l.terminals)
