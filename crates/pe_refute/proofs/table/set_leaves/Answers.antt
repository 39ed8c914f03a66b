use Rattle.std.proofs.Common.{◌≡◌, ◌-◌, ◌||◌, ◌==◌, suc, false, length, refl, sym, ap, ◌∙◌, arith}
use Rattle.pe_graph.specs.Literals.{lit_of}
use Rattle.pe_cnf.specs.ClauseSet.{leaf_var}
use Rattle.pe_cnf.specs.Gates.{AreApart}
use Rattle.pe_cnf.proofs.MarkLemmas.{or_false}
use Rattle.pe_graph.proofs.Growth.{var_of-lit_of, is_negated-lit_of}
use Rattle.pe_refute.specs.declared.scratch.Scratch.{Scratch}
use Rattle.pe_refute.specs.Table.{halved}
use Rattle.pe_refute.specs.Known.{knows_of}
use Rattle.pe_refute.specs.Evaluation.{value_of}
use Rattle.pe_refute.proofs.Evaluated.{mark_value, set_none, set_one, set_zero, all_set, rest_more, constant_below}
use Rattle.pe_refute.proofs.table.set_leaves.Goals as goal
use Rattle.pe_refute.proofs.table.set_leaves.Goals.{then-rest-eq1, else-rest-eq1}

pub mark-requires : goal.mark-requires
mark-requires c =
    let below = constant_below c.args.clauses.now c.requires.gated c.requires.sound.below in
    rw (c.truth.ensures, c.begin.ensures.room) (omega (arith, below, c.requires.room))

pub loop-left-init : goal.loop-left-init
loop-left-init c =
    let set = c.args.clauses.now in
    record {
      room = c.mark.ensures.room ∙ c.begin.ensures.room;
      within = omega arith;
      rest = let z : length c.leaves-leaves.result.now - length c.leaves-leaves.result.now ≡ 0 = omega arith in sym (ap (halved c.args.k) z);
      leaves_are = set_none c.leaves-leaves.result.now set.clauses c.args.k _ (value_of c.mark.new.self) (rw c.leaves-leaves.ensures c.requires.gated.leaves_are) refl
          (λ y. mark_value (knows_of c.begin.new.self) (knows_of c.mark.new.self) c.truth.result 0 c.truth.ensures refl c.mark.ensures.known y ∙ ap (λ b. (y == 0) || b) (c.begin.ensures.none (lit_of y false)) ∙ or_false (y == 0));
    }

pub loop-left-preserved : goal.loop-left-preserved
loop-left-preserved c =
    let set = c.args.clauses.now in
    let leaves = c.leaves-leaves.result.now in
    let m = c.loop-left.left - 1 in
    let next : c.loop-left.left ≡ suc m = omega arith in
    let s = c.loop-left.invariant in
    let rest = rest_more c.args.k (length leaves) c.loop-left.left m c.loop-left.rest next s.within s.rest in
    let apart : AreApart leaves = rw c.leaves-leaves.ensures c.requires.gated.leaves_are in
    elim c.if-rest-eq1.branch [
      | then-rest-eq1 w ↦ record {
        room = ap (λ (s : Scratch). s.vars) w.scratch-is ∙ w.mark-then-rest-eq1.ensures.room ∙ s.room;
        within = omega arith;
        rest = rest;
        leaves_are = rw w.scratch-is
            (set_one leaves set.clauses c.args.k m c.loop-left.left c.loop-left.rest (value_of c.loop-left.scratch) (value_of w.mark-then-rest-eq1.new.self) apart next s.within s.rest w.if-rest-eq1.true
            (λ y. mark_value (knows_of c.loop-left.scratch) (knows_of w.mark-then-rest-eq1.new.self) w.of.result (lit_of (leaf_var leaves m) false) w.of.ensures (is_negated-lit_of (leaf_var leaves m) false) w.mark-then-rest-eq1.ensures.known y ∙ ap (λ x. (y == x) || value_of c.loop-left.scratch y) (var_of-lit_of (leaf_var leaves m) false))
            s.leaves_are);
      }
      | else-rest-eq1 w ↦ record {
        room = ap (λ (s : Scratch). s.vars) w.scratch-is ∙ s.room;
        within = omega arith;
        rest = rest;
        leaves_are = rw w.scratch-is (set_zero leaves set.clauses c.args.k m c.loop-left.left c.loop-left.rest (value_of c.loop-left.scratch) next s.within s.rest w.if-rest-eq1.false s.leaves_are);
      }
    ]

pub returns-clause-evaluated : goal.returns-clause-evaluated
returns-clause-evaluated c = rw c.leaves-leaves.ensures at (all_set _ _ _ _ (value_of c.loop-left.scratch) (omega (arith, c.loop-left-test.false)) c.loop-left.invariant.leaves_are)
