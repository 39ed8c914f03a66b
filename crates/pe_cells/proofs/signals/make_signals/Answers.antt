use Rattle.pe_cells.proofs.Making.{groups_judged, groups_added}
use Rattle.pe_cells.proofs.signals.make_signals.Goals as goal

pub loop-group-preserved : goal.loop-group-preserved
loop-group-preserved c = record {
  judged = groups_judged _ _ _ _ _ _ _ c.loop-group-test.true c.group-item.is c.loop-group.invariant.judged c.in_ok-add_signals.ensures.judged;
  signals =
      groups_added _ _ _ _ _ _ _ _ _ _ c.loop-group-test.true c.group-item.is c.in_ok-add_signals.ensures.judged c.loop-group.invariant.signals c.in_ok-add_signals.ensures.signals;
}
