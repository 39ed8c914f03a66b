use Rattle.std.proofs.Common.{get_or, arith, ap, ◌∙◌}
use Rattle.pe_compare.specs.MapTerminals.{terminal_of}
use Rattle.pe_compare.proofs.Pieces.{no_token, terminals_step}
use Rattle.pe_compare.proofs.map_terminal.terminals.Goals as goal

pub loop-token-preserved : goal.loop-token-preserved
loop-token-preserved c = record {
  place = omega (arith, c.loop-token.invariant.place);
  so_far =
      terminals_step c.args.text.now c.loop-token.is_first c.loop-token.token-index c.args.tokens.now c.terminal-kind.result c.loop-token.place _ _ _ c.loop-token-test.true
      (c.terminal-kind.ensures ∙ ap (terminal_of c.loop-token.is_first (get_or c.args.tokens.now c.loop-token.token-index no_token).kind) c.between.ensures)
      c.loop-token.invariant.place c.loop-token.invariant.so_far c.in_ok-push.ensures.ok;
}
