use Rattle.std.proofs.Common.{◌≡◌, ◌++◌, length, drop}
use Rattle.pe_bool_expr.specs.Terminals.{terminals_from}
use Rattle.pe_bool_expr.proofs.Pieces.{Left}
use Rattle.pe_bool_expr.proofs.terminal.terminals.Given as goal

abbrev pub invariant-loop-piece : goal.invariant-loop-piece
invariant-loop-piece l = record {
  place : l.place ≡ l.piece-index;
  left : Left (length l.text) l.piece-index (drop l.piece-index l.pieces);
  so_far : terminals_from l.style l.text 0 l.pieces ≡ l.all ++ terminals_from l.style l.text l.piece-index (drop l.piece-index l.pieces);
}
