use Rattle.std.proofs.Common.{◌≡◌, ◌++◌, length, drop}
use Rattle.pe_bool_expr.specs.Names.{first_unknown, pins_for}
use Rattle.pe_bool_expr.proofs.Pieces.{Left}
use Rattle.pe_bool_expr.proofs.names.pins_of.Given as goal

abbrev pub invariant-loop-token : goal.invariant-loop-token
invariant-loop-token l = record {
  left : Left (length l.text) l.token-index (drop l.token-index l.tokens);
  unknown : first_unknown l.names l.text l.tokens ≡ first_unknown l.names l.text (drop l.token-index l.tokens);
  so_far : pins_for l.names l.text l.tokens ≡ l.pins ++ pins_for l.names l.text (drop l.token-index l.tokens);
}
