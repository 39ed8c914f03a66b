use Rattle.pe_cells.proofs.Additions.{judges_none, adds_none}
use Rattle.pe_cells.proofs.Making.{names_judged, names_added}
use Rattle.pe_cells.proofs.signals.add_signals.Goals as goal

pub loop-name-init : goal.loop-name-init
loop-name-init c = record { judged = judges_none _; signals = λ none. adds_none _ _ }

pub loop-name-preserved : goal.loop-name-preserved
loop-name-preserved c = record {
  judged = names_judged _ _ _ _ _ _ _ _ c.loop-name-test.true c.name-item.is c.loop-name.invariant.judged c.in_ok-signal.ensures.judged;
  signals =
      names_added _ _ _ _ _ _ _ _ _ _ _ _ c.loop-name-test.true c.name-item.is c.in_ok-signal.ensures.judged c.loop-name.invariant.signals c.in_ok-signal.ensures.signal
      c.in_ok-push.ensures.ok;
}
