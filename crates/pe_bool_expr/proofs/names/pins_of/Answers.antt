use Rattle.std.proofs.Common.{◌++◌, true, false, length, get_or, append-nil, arith, refl, ap, inl, inr, sym, ◌∙◌}
use Rattle.std.proofs.lemmas.List.{drop_all}
use Rattle.pe_bool_expr.specs.Names.{first_unknown, pins_for, is_known, pin_of}
use Rattle.pe_bool_expr.proofs.Pieces.{no_piece, next_at}
use Rattle.pe_bool_expr.proofs.NamesLemmas.{pins_step, unknown_step}
use Rattle.pe_bool_expr.proofs.names.pins_of.Goals as goal

pub loop-token-init : goal.loop-token-init
loop-token-init c = record {
  left = record { from = 0; enough = omega arith; order = c.requires.order };
  unknown = refl;
  so_far = ap (λ us. us ++ pins_for c.args.names.now c.args.text.now c.args.tokens.now) (sym c.new-pins.ensures);
}

pub part-requires-clause-order : goal.part-requires-clause-order
part-requires-clause-order c = (next_at (length c.args.text.now) c.loop-token.token-index c.args.tokens.now c.loop-token-test.true c.loop-token.invariant.left).order

pub part-requires-clause-within : goal.part-requires-clause-within
part-requires-clause-within c = (next_at (length c.args.text.now) c.loop-token.token-index c.args.tokens.now c.loop-token-test.true c.loop-token.invariant.left).within

pub loop-token-preserved : goal.loop-token-preserved
loop-token-preserved c =
    let t = get_or c.args.tokens.now c.loop-token.token-index no_piece in record {
      left = (next_at (length c.args.text.now) c.loop-token.token-index c.args.tokens.now c.loop-token-test.true c.loop-token.invariant.left).left;
      unknown =
          unknown_step c.args.names.now c.args.text.now c.loop-token.token-index c.args.tokens.now true (first_unknown c.args.names.now c.args.text.now c.args.tokens.now)
          c.loop-token-test.true c.loop-token.invariant.unknown (ap (is_known c.args.names.now t.kind) (sym c.part.ensures) ∙ c.in-Ok.ensures.0);
      so_far =
          pins_step c.args.names.now c.args.text.now c.loop-token.token-index c.args.tokens.now c.loop-token.pins (pins_for c.args.names.now c.args.text.now c.args.tokens.now) c.push.new.self c.in-Ok.pin
          c.loop-token-test.true c.loop-token.invariant.so_far (c.in-Ok.ensures.1 ∙ ap (pin_of c.args.names.now t.kind) c.part.ensures) c.in_ok-push-in-Ok.ensures.ok;
    }

pub returns-in-Err : goal.returns-in-Err
returns-in-Err c =
    let t = get_or c.args.tokens.now c.loop-token.token-index no_piece in
    elim c.in-Err.ensures [
      | inl p ↦ inl p
      | inr p ↦
          inr (
            t.span.from,
            p.0,
            unknown_step c.args.names.now c.args.text.now c.loop-token.token-index c.args.tokens.now false (first_unknown c.args.names.now c.args.text.now c.args.tokens.now)
                c.loop-token-test.true c.loop-token.invariant.unknown (ap (is_known c.args.names.now t.kind) (sym c.part.ensures) ∙ p.1),
          )
    ]

pub returns : goal.returns
returns c =
    let end = drop_all c.loop-token.token-index c.args.tokens.now c.loop-token-test.false in
    let pins = c.loop-token.pins in (
      c.loop-token.invariant.unknown ∙ ap (first_unknown c.args.names.now c.args.text.now) end,
      sym (c.loop-token.invariant.so_far ∙ ap (λ us. pins ++ pins_for c.args.names.now c.args.text.now us) end ∙ append-nil pins),
    )
