use Rattle.std.proofs.Common.{◌≡◌, ◌++◌, ◌∷◌, [], not, true, ap, sym, ◌∙◌}
use Rattle.pe_base.specs.Names.{has_name}
use Rattle.pe_supply.proofs.Finding.{step_new, step_old, there_by}
use Rattle.pe_supply.proofs.lookup.Lookup.of.Goals as goal
use Rattle.pe_supply.proofs.lookup.Lookup.of.Goals.{then-branch+in_ok-push, else-branch}

pub loop-pair-preserved : goal.loop-pair-preserved
loop-pair-preserved c =
    let names = c.args.names.now in
    let i = c.loop-pair.pair-index in
    let pair = c.pair-item.result in
    let index = c.loop-pair.index in
    elim c.if-branch.branch [
      | then-branch+in_ok-push w ↦
          let grown : c.insert.new.self ≡ index ++ pair.0 ∷ [] = c.in_ok-insert.ensures.added w.if-branch.true ∙ ap (λ n. index ++ n ∷ []) c.bytes.ensures in
          let pushed : c.if-branch.numbers ≡ c.loop-pair.numbers ++ pair.1 ∷ [] = w.numbers-is ∙ w.in_ok-push.ensures.ok in
          rw (grown, pushed) (step_new names i pair c.loop-pair-test.true c.pair-item.is index c.loop-pair.numbers c.loop-pair.invariant)
      | else-branch w ↦
          let same : c.insert.new.self ≡ index = c.in_ok-insert.ensures.there w.if-branch.false in
          let there : has_name index pair.0 ≡ true = there_by (has_name index pair.0) (sym (c.in_ok-insert.ensures.new ∙ ap (λ n. not (has_name index n)) c.bytes.ensures) ∙ w.if-branch.false) in
          rw (same, w.numbers-is) (step_old names i pair c.loop-pair-test.true c.pair-item.is index c.loop-pair.numbers c.loop-pair.invariant there)
    ]
