use Rattle.std.proofs.Common.{◌≡◌, ◌||◌, sym, ◌∙◌, ap, subst, arith, take, reverse}
use Rattle.pe_solver.specs.Walk.{after}
use Rattle.pe_solver.specs.Lean.{Tight, mentions}
use Rattle.pe_cnf.specs.Clause.{has}
use Rattle.pe_solver.proofs.Parted.{prune_used, prune_unused, mentions_push}
use Rattle.pe_solver.proofs.lean.prune.Goals as goal

pub loop-left-preserved-in-Continue-branch-2 : goal.loop-left-preserved-in-Continue-branch-2
loop-left-preserved-in-Continue-branch-2 c =
    let used = sym (c.loop-left.invariant.known c.complement.result) ∙ sym c.knows-used.ensures ∙ c.if-used.true in
    record {
      within = omega arith;
      tight = λ k t.
          prune_used c.args.all.now k c.args.trace.now c.loop-left.left _ _ _ _ c.loop-left-test.true c.loop-left.invariant.within c.requires.shape t
          c.index-h.ensures c.index.ensures c.in_ok-push-2.ensures.items (rw c.complement.ensures at used) (c.loop-left.invariant.tight k t);
      known = λ m.
          c.mark_all-then-used.ensures.known m ∙ ap (λ b. has c.clause-then-used.result.now m || b) (c.loop-left.invariant.known m) ∙
          ap (λ x. has x m || mentions c.args.all.now (reverse c.loop-left.kept.items) m) c.clause-then-used.ensures ∙
          sym (mentions_push c.args.all.now _ _ _ m c.in_ok-push-2.ensures.items);
      room = c.mark_all-then-used.ensures.room ∙ c.loop-left.invariant.room;
    }

pub loop-left-preserved : goal.loop-left-preserved
loop-left-preserved c =
    let used = sym (c.loop-left.invariant.known c.complement.result) ∙ sym c.knows-used.ensures ∙ c.if-used.false in
    record {
      within = omega arith;
      tight = λ k t.
          prune_unused c.args.all.now k c.args.trace.now c.loop-left.left _ c.loop-left.kept.items c.loop-left-test.true c.loop-left.invariant.within
          c.index.ensures (rw c.complement.ensures at used) (c.loop-left.invariant.tight k t);
      known = c.loop-left.invariant.known;
      room = c.loop-left.invariant.room;
    }

pub returns-clause-tight : goal.returns-clause-tight
returns-clause-tight c = λ k t.
    let z : c.loop-left.left ≡ 0 = omega arith in
    rw c.reverse.ensures.items (subst (λ n. Tight c.args.all.now (after (take n c.args.trace.now.units.items) k) (reverse c.loop-left.kept.items)) z (c.loop-left.invariant.tight k t))
