use Rattle.pe_cells.proofs.Making.{range_judged, range_added}
use Rattle.pe_cells.proofs.switches.add_switches.Goals as goal

pub loop-place-preserved : goal.loop-place-preserved
loop-place-preserved c = record {
  judged = range_judged _ _ _ _ _ _ _ c.loop-place.auto.place c.loop-place.invariant.judged c.in_ok-add_switch.ensures.judged;
  switches =
      range_added _ _ _ _ _ _ _ _ _ _ c.loop-place.auto.place c.in_ok-add_switch.ensures.judged c.loop-place.invariant.switches c.in_ok-add_switch.ensures.switches;
}
