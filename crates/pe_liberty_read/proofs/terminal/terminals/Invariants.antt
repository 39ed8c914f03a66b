use Rattle.std.proofs.Common.{◌≡◌, ◌++◌, drop}
use Rattle.pe_liberty_read.specs.Terminals.{terminals_from, terminals_of}
use Rattle.pe_liberty_read.proofs.terminal.terminals.Given as goal

abbrev pub invariant-loop-token : goal.invariant-loop-token
invariant-loop-token l = record {
  place : l.place ≡ l.token-index;
  so_far : terminals_of l.text l.tokens ≡ l.all ++ terminals_from l.text l.in_values l.token-index (drop l.token-index l.tokens);
}
