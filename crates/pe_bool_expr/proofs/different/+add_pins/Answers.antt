use Rattle.std.proofs.Common.{sym, ap, ◌∙◌}
use Rattle.pe_bool_expr.specs.Functions.{formula, pins, with_new}
use Rattle.pe_bool_expr.proofs.Choosing.{with_new-append}
use Rattle.pe_bool_expr.proofs.Formulas.{pins-two}
use Rattle.pe_bool_expr.proofs.different.+add_pins.Goals as goal

pub returns-in_ok-add_pins-in-And-2 : goal.returns-in_ok-add_pins-in-And-2
returns-in_ok-add_pins-in-And-2 t c =
    let two = pins-two c.args.e.now c.in-And.first c.in-And.second c.in-And.is in
    let parts = rw (sym c.get-in-And.ensures, sym c.get-in-And-2.ensures) at two in
    let f = pins (formula c.get-in-And.result.now) in
    let g = pins (formula c.get-in-And-2.result.now) in
    c.in_ok-add_pins-in-And-2.ensures ∙ ap (λ xs. with_new xs g) c.in_ok-add_pins-in-And.ensures ∙ sym (with_new-append c.args.pins.now f g) ∙ ap (with_new c.args.pins.now) (sym parts)
