use Rattle.std.proofs.Common.{◌≡◌, ◌+◌, ◌-◌, refl, false, true, sym, ◌∙◌, subst, arith, ℕ}
use Rattle.pe_cnf.specs.Clause.{has, clause_at}
use Rattle.pe_refute.specs.Known.{knows_of}
use Rattle.pe_refute.proofs.Walk.{false_is_true}
use Rattle.pe_refute.proofs.Sight.{or_left}
use Rattle.pe_solver.proofs.MaskLemmas.{same_mask}
use Rattle.pe_solver.proofs.LinkLemmas.{passed_from, passed_on}
use Rattle.pe_solver.proofs.same.find_same.Goals as goal
use Rattle.pe_solver.proofs.same.find_same.Goals.{then-mask+then-all_known+else-is_part, then-mask+else-all_known, else-mask}

pub loop-above-init : goal.loop-above-init
loop-above-init c = passed_from c.args.all.now c.args.clause.now _ _ c.mask_of-mask.ensures c.last-above.ensures

pub loop-above-preserved : goal.loop-above-preserved
loop-above-preserved c =
    let id = c.loop-above.above - 1 in
    let at : c.loop-above.above ≡ id + 1 = omega arith in
    let older = c.before-above.ensures _ (c.loop-above.invariant.own id at) in
    passed_on c.args.all.now c.args.clause.now _ id _ _ c.mask_of-mask.ensures at
    (λ s. elim c.if-mask.branch [
      | then-mask+then-all_known+else-is_part w ↦
          let p : (l : ℕ) → has c.args.clause.now l ≡ true → has w.clause-other.result.now l ≡ true =
          λ l h. subst (λ d. has d l ≡ true) (sym w.clause-other.ensures) (s l ∙ h) in
          false_is_true false refl (sym w.if-is_part.false ∙ w.is_part.ensures.1 p)
      | then-mask+else-all_known w ↦
          let p : (l : ℕ) → has w.clause-other.result.now l ≡ true → knows_of c.mark_all.new.scratch l ≡ true =
          λ l h. c.mark_all.ensures.known l ∙ or_left _ _ (sym (s l) ∙ subst (λ d. has d l ≡ true) w.clause-other.ensures h) in
          false_is_true false refl (sym w.if-all_known.false ∙ w.all_known.ensures.1 p)
      | else-mask w ↦ w.if-mask.false (same_mask (clause_at c.args.all.now id) c.args.clause.now _ _ s c.mask.ensures c.mask_of-mask.ensures)
    ])
    c.loop-above.invariant older
