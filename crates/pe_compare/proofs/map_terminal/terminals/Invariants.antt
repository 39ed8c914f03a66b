use Rattle.std.proofs.Common.{◌≡◌, ◌++◌, drop}
use Rattle.pe_compare.specs.MapTerminals.{terminals_from, terminals_of}
use Rattle.pe_compare.proofs.map_terminal.terminals.Given as goal

abbrev pub invariant-loop-token : goal.invariant-loop-token
invariant-loop-token l = record {
  place : l.place ≡ l.token-index;
  so_far : terminals_of l.text l.tokens ≡ l.all ++ terminals_from l.text l.is_first l.token-index (drop l.token-index l.tokens);
}
