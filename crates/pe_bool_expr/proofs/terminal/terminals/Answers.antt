use Rattle.std.proofs.Common.{◌++◌, length, get_or, append-nil, arith, refl, ap, sym, ◌∙◌}
use Rattle.std.proofs.lemmas.List.{drop_all}
use Rattle.pe_bool_expr.specs.Terminals.{terminals_from, terminal_of}
use Rattle.pe_bool_expr.proofs.Pieces.{no_piece, next_at, terminals_step}
use Rattle.pe_bool_expr.proofs.terminal.terminals.Goals as goal

pub loop-piece-init : goal.loop-piece-init
loop-piece-init c = record {
  place = refl;
  left = record { from = 0; enough = omega arith; order = c.requires.order };
  so_far = ap (λ us. us ++ terminals_from c.args.style c.args.text.now 0 c.args.pieces.now) (sym c.new-all.ensures);
}

pub part-requires-clause-order : goal.part-requires-clause-order
part-requires-clause-order c = (next_at (length c.args.text.now) c.loop-piece.piece-index c.args.pieces.now c.loop-piece-test.true c.loop-piece.invariant.left).order

pub part-requires-clause-within : goal.part-requires-clause-within
part-requires-clause-within c = (next_at (length c.args.text.now) c.loop-piece.piece-index c.args.pieces.now c.loop-piece-test.true c.loop-piece.invariant.left).within

pub overflow_add-place : goal.overflow_add-place
overflow_add-place c =
    let next = next_at (length c.args.text.now) c.loop-piece.piece-index c.args.pieces.now c.loop-piece-test.true c.loop-piece.invariant.left in
    omega (arith, next.short, c.requires.short, c.loop-piece.invariant.place)

pub loop-piece-preserved : goal.loop-piece-preserved
loop-piece-preserved c = record {
  place = omega (arith, c.loop-piece.invariant.place);
  left = (next_at (length c.args.text.now) c.loop-piece.piece-index c.args.pieces.now c.loop-piece-test.true c.loop-piece.invariant.left).left;
  so_far =
      terminals_step c.args.style c.args.text.now c.loop-piece.piece-index c.args.pieces.now c.loop-piece.all (terminals_from c.args.style c.args.text.now 0 c.args.pieces.now) c.push.new.self c.terminal-kind.result c.loop-piece.place c.loop-piece-test.true c.loop-piece.invariant.so_far
      (c.terminal-kind.ensures ∙ ap (terminal_of c.args.style (get_or c.args.pieces.now c.loop-piece.piece-index no_piece).kind) c.part.ensures) c.loop-piece.invariant.place c.in_ok-push.ensures.ok;
}

pub returns : goal.returns
returns c =
    let all = c.loop-piece.all in
    sym (
    c.loop-piece.invariant.so_far
    ∙ ap (λ us. all ++ terminals_from c.args.style c.args.text.now c.loop-piece.piece-index us) (drop_all c.loop-piece.piece-index c.args.pieces.now c.loop-piece-test.false)
    ∙ append-nil all
    )
