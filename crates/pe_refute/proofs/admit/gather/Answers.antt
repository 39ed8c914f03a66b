use Rattle.std.proofs.Common.{◌∷◌, ◌++◌, [], ap, sym, ◌∙◌}
use Rattle.pe_refute.proofs.Entries.{cited_kept, cited_added}
use Rattle.pe_refute.proofs.admit.gather.Goals as goal
use Rattle.pe_refute.proofs.admit.gather.Goals.{in-None, in-Some+in_ok-push-in-Some}

pub loop-place-preserved : goal.loop-place-preserved
loop-place-preserved c =
    elim c.match-equality_at.branch [
      | in-None w ↦
          w.cited-is ∙ c.loop-place.invariant ∙ sym (cited_kept c.args.seen.now c.args.cites.now c.loop-place.place-index c.loop-place-test.true (sym c.equality_at.ensures ∙ w.in-None.is))
      | in-Some+in_ok-push-in-Some w ↦
          w.cited-is ∙ w.in_ok-push-in-Some.ensures.ok ∙ ap (λ xs. xs ++ w.in-Some.e ∷ []) c.loop-place.invariant ∙ sym (cited_added c.args.seen.now c.args.cites.now c.loop-place.place-index w.in-Some.e c.loop-place-test.true (sym c.equality_at.ensures ∙ w.in-Some.is))
    ]
