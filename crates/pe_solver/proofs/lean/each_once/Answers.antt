use Rattle.std.proofs.Common.{◌≡◌, sym, ◌∙◌, get_or}
use Rattle.std.proofs.lemmas.List.{get_or_read}
use Rattle.pe_refute.specs.Known.{knows_of}
use Rattle.pe_solver.proofs.Parted.{once_taken, once_distinct, once_skipped, has_one_more}
use Rattle.pe_solver.proofs.lean.each_once.Goals as goal
use Rattle.pe_solver.proofs.lean.each_once.Goals.{then-not-knows+in_ok-push, else-not-knows}

pub loop-l-preserved : goal.loop-l-preserved
loop-l-preserved c =
    let i = c.loop-l.invariant in
    let item : c.l-item.result ≡ get_or c.args.literals.now c.loop-l.l-index 0 = get_or_read c.args.literals.now c.loop-l.l-index _ c.loop-l-test.true c.l-item.is 0 in
    elim c.if-not-knows.branch [
      | then-not-knows+in_ok-push w ↦
          let fresh = sym (i.known _) ∙ sym c.knows.ensures ∙ w.if-not-knows.true in
          rw (w.kept-is, w.scratch-is) (record {
            same = once_taken c.args.literals.now c.loop-l.l-index _ c.loop-l.kept.items _ c.loop-l-test.true (sym item) w.in_ok-push.ensures.items i.same;
            distinct = once_distinct c.loop-l.kept.items _ _ w.in_ok-push.ensures.items fresh i.distinct;
            known = λ m. w.mark.ensures.known m ∙ has_one_more c.loop-l.kept.items _ _ m (knows_of c.loop-l.scratch m) w.in_ok-push.ensures.items (i.known m);
            room = w.mark.ensures.room ∙ i.room;
          })
      | else-not-knows w ↦
          let there = sym (i.known _) ∙ sym c.knows.ensures ∙ w.if-not-knows.false in
          rw (w.kept-is, w.scratch-is) (record {
            same = once_skipped c.args.literals.now c.loop-l.l-index _ c.loop-l.kept.items c.loop-l-test.true (sym item) there i.same;
            distinct = i.distinct;
            known = i.known;
            room = i.room;
          })
    ]
