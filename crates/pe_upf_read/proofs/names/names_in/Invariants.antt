use Rattle.std.proofs.Common.{◌≡◌, ◌++◌, drop}
use Rattle.pe_upf_read.specs.Names.{names_in}
use Rattle.pe_upf_read.proofs.names.names_in.Given as goal

abbrev pub invariant-loop-terminal : goal.invariant-loop-terminal
invariant-loop-terminal l = names_in l.text l.tokens l.terminals ≡ l.names ++ names_in l.text l.tokens (drop l.terminal-index l.terminals)
