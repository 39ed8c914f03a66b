use Rattle.std.proofs.Common.{◌+◌, ap, ◌∙◌}
use Rattle.pe_cells.proofs.Making.{switching_step}
use Rattle.pe_cells.proofs.switches.make_switches.Goals as goal

pub loop-group-preserved : goal.loop-group-preserved
loop-group-preserved c =
    switching_step c.args.names.now c.args.pgs.now c.args.groups.now c.loop-group.group-index c.group-item.result c.args.faults.now c.loop-group.faults c.add_switches.new.faults
    c.loop-group.place c.in_ok-place.place c.loop-group.switches c.add_switches.new.switches c.loop-group-test.true c.group-item.is
    (c.in_ok-place.ensures ∙ ap (λ n. c.loop-group.place + n) c.count_pgs.ensures) c.in_ok-add_switches.ensures.judged c.in_ok-add_switches.ensures.switches c.loop-group.invariant
