use Rattle.std.proofs.Common.{refl, ◌∙◌}
use Rattle.pe_refute.specs.Known.{knows_of}
use Rattle.pe_solver.proofs.Walks.{walked_past, walked_neither, walked_unit}
use Rattle.pe_solver.proofs.lean.walk.Goals as goal
use Rattle.pe_solver.proofs.lean.walk.Goals.{then-h-count+in-Neither, then-h-count+in-Unit+in_ok-push-in-Unit+in_ok-push-in-Unit-2, else-h-count}

pub loop-h-preserved : goal.loop-h-preserved
loop-h-preserved c =
    let was = c.loop-h.invariant.walked in
    elim c.if-h-count.branch [
      | then-h-count+in-Neither w ↦
          rw (w.scratch-is, w.kept-is, w.units-is) (record {
            walked = walked_neither c.args.all.now (knows_of c.args.scratch.now) c.args.hints.now c.loop-h.h-index _ _ _ (knows_of c.loop-h.scratch) w.clause.result.now
                c.loop-h-test.true refl w.clause.ensures w.in-Neither.ensures was;
            room = c.loop-h.invariant.room;
          })
      | then-h-count+in-Unit+in_ok-push-in-Unit+in_ok-push-in-Unit-2 w ↦
          rw (w.scratch-is, w.kept-is, w.units-is, w.in_ok-push-in-Unit.ensures.items, w.in_ok-push-in-Unit-2.ensures.items) (record {
            walked = walked_unit c.args.all.now (knows_of c.args.scratch.now) c.args.hints.now c.loop-h.h-index _ w.in-Unit.l _ _ (knows_of c.loop-h.scratch) (knows_of w.mark.new.self) w.clause.result.now
                c.loop-h-test.true refl (rw c.count.ensures at w.if-h-count.true) w.clause.ensures w.in-Unit.ensures w.mark.ensures.known was;
            room = w.mark.ensures.room ∙ c.loop-h.invariant.room;
          })
      | else-h-count w ↦
          rw (w.scratch-is, w.kept-is, w.units-is) (record {
            walked = walked_past c.args.all.now (knows_of c.args.scratch.now) c.args.hints.now c.loop-h.h-index _ _ _ (knows_of c.loop-h.scratch)
                c.loop-h-test.true refl (rw c.count.ensures at w.if-h-count.false) was;
            room = c.loop-h.invariant.room;
          })
    ]
