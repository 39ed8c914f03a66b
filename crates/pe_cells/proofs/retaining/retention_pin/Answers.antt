use Rattle.std.proofs.Common.{◌+◌, sym, ap, ◌∙◌}
use Rattle.pe_cells.proofs.Making.{go_on, stop_here}
use Rattle.pe_cells.proofs.retaining.retention_pin.Goals as goal

pub loop-group-preserved : goal.loop-group-preserved
loop-group-preserved c =
    c.loop-group.invariant
    ∙ go_on c.args.class.now c.loop-group.place c.in_ok-place.place c.loop-group.group-index c.args.groups.now c.group-item.result c.in_ok-found.found c.loop-group-test.true c.group-item.is
    c.in_ok-found.ensures (sym c.is_some.ensures ∙ c.if-is_some.false) (c.in_ok-place.ensures ∙ ap (λ n. c.loop-group.place + n) c.count_pins.ensures)

pub returns-then-is_some : goal.returns-then-is_some
returns-then-is_some c =
    sym (c.loop-group.invariant
    ∙ stop_here c.args.class.now c.loop-group.place c.loop-group.group-index c.args.groups.now c.group-item.result c.in_ok-found.found c.loop-group-test.true c.group-item.is
    c.in_ok-found.ensures (sym c.is_some.ensures ∙ c.if-is_some.true))
