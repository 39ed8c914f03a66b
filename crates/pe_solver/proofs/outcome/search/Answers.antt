use Rattle.std.proofs.Common.{◌∙◌, sym, subst, arith}
use Rattle.pe_solver.specs.Derivation.{NoneEmpty}
use Rattle.pe_solver.proofs.Growth.{kept_good}
use Rattle.pe_solver.proofs.outcome.search.Goals as goal
use Rattle.pe_solver.proofs.outcome.search.Goals.{in-New+in_ok-learn-in-New, in-Old+in_ok-learn_again-in-Old}

pub returns-in-Empty : goal.returns-in-Empty
returns-in-Empty c =
    let told = c.in_ok-keep_lesson-in-Lesson.ensures in
    let step = rw c.in-Empty.is at told.step in
    let kept = told.kept c.args.given.now.clauses c.loop.invariant.kept in
    let more = step.0 in
    let len = c.len.ensures ∙ c.loop.chain.ok.0 in
    let less = c.if-len-share.false in
    ((kept_good c.args.given.now.clauses _ _ kept step.1, omega arith), tt)

pub returns-in-Wrong : goal.returns-in-Wrong
returns-in-Wrong c =
    let told = c.in_ok-keep_lesson-in-Lesson.ensures in
    let step = rw c.in-Wrong.is at told.step in
    let kept = told.kept c.args.given.now.clauses c.loop.invariant.kept in
    let room = told.room ∙ c.loop.invariant.room in (
      kept,
      subst NoneEmpty (sym step) c.loop.invariant.none_empty,
      told.below,
      omega arith,
      rw step c.loop.invariant.count,
    )

pub loop-preserved : goal.loop-preserved
loop-preserved c =
    let before = c.loop.invariant in
    let told = c.in_ok-keep_lesson-in-Lesson.ensures in
    let kept = told.kept c.args.given.now.clauses before.kept in
    let room = told.room ∙ before.room in
    let len = c.len.ensures ∙ c.loop.chain.ok.0 in
    let less = c.if-len-share.false in
    elim c.match-branch-10.branch [
      | in-New+in_ok-learn-in-New w ↦
          let step = rw w.in-New.is at told.step in
          let more = step.0 in
          record { kept = kept; count = omega arith; none_empty = step.1 before.none_empty; below = told.below; room = room }
      | in-Old+in_ok-learn_again-in-Old w ↦
          let step = rw w.in-Old.is at told.step in
          record { kept = kept; count = rw step.0 before.count; none_empty = subst NoneEmpty (sym step.0) before.none_empty; below = told.below; room = room }
    ]
