use Rattle.std.proofs.Common.{refl, inr, ◌∙◌}
use Rattle.pe_bool_expr.proofs.NamesLemmas.{unknown_at_end, known_before}
use Rattle.pe_bool_expr.proofs.names.pin_of.Goals as goal

pub returns-then-place-names : goal.returns-then-place-names
returns-then-place-names c =
    inr (refl, unknown_at_end c.args.names.now c.args.kind c.args.bytes.now c.place_of-place.result c.in-Word.is c.place_of-place.ensures c.if-place-names.true)

pub returns-in-Ok : goal.returns-in-Ok
returns-in-Ok c =
    let known = known_before c.args.names.now c.args.kind c.args.bytes.now c.place_of-place.result c.in-Word.is c.place_of-place.ensures c.if-place-names.false in
    (known.0, c.in-Ok.ensures.1 ∙ known.1)
