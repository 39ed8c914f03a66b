use Rattle.std.proofs.Common.{◌≡◌, sym, ◌∙◌, get_or}
use Rattle.std.proofs.lemmas.List.{get_or_read}
use Rattle.pe_refute.specs.Known.{knows_of}
use Rattle.pe_solver.proofs.Parted.{known_taken, known_skipped}
use Rattle.pe_solver.proofs.lean.known_ones.Goals as goal
use Rattle.pe_solver.proofs.lean.known_ones.Goals.{then-knows+in_ok-push, else-knows}

pub loop-l-preserved : goal.loop-l-preserved
loop-l-preserved c =
    let known = knows_of c.args.scratch.now in
    let item : c.l-item.result ≡ get_or c.args.clause.now c.loop-l.l-index 0 = get_or_read c.args.clause.now c.loop-l.l-index _ c.loop-l-test.true c.l-item.is 0 in
    elim c.if-knows.branch [
      | then-knows+in_ok-push w ↦
          rw w.kept-is (known_taken known c.args.clause.now c.loop-l.l-index _ c.loop-l.kept.items _ c.loop-l-test.true (sym item) (sym c.knows.ensures ∙ w.if-knows.true) w.in_ok-push.ensures.items c.loop-l.invariant)
      | else-knows w ↦
          rw w.kept-is (known_skipped known c.args.clause.now c.loop-l.l-index _ c.loop-l.kept.items c.loop-l-test.true (sym item) (sym c.knows.ensures ∙ w.if-knows.false) c.loop-l.invariant)
    ]
