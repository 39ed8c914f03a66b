use Rattle.std.proofs.Common.{sym, ◌∙◌}
use Rattle.pe_cells.specs.Kinds.{is_pin}
use Rattle.pe_cells.proofs.Making.{no_pin_in, some_pin_in, empty_pins}
use Rattle.pe_cells.proofs.retaining.pin_in.Goals as goal

pub returns-then-count_pins-eq0 : goal.returns-then-count_pins-eq0
returns-then-count_pins-eq0 c = sym (empty_pins c.args.class.now c.args.place _ (sym c.count_pins.ensures ∙ c.if-count_pins-eq0.true))

pub returns-in-None : goal.returns-in-None
returns-in-None c = sym (no_pin_in (is_pin c.args.group.now) c.args.class.now c.args.place c.args.group.now (sym c.in-None.ensures))

pub returns-in_ok-pin-in-Some : goal.returns-in_ok-pin-in-Some
returns-in_ok-pin-in-Some c =
    c.in_ok-pin-in-Some.ensures
    ∙ sym (some_pin_in (is_pin c.args.group.now) c.args.class.now c.args.place c.args.group.now c.in-Some.attr.now (λ e. c.if-count_pins-eq0.false (c.count_pins.ensures ∙ e)) (sym c.in-Some.ensures))
