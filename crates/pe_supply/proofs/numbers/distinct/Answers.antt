use Rattle.std.proofs.Common.{◌≡◌, ◌∷◌, ◌++◌, [], not, ap, sym, ◌∙◌, subst}
use Rattle.pe_base.specs.Names.{has_name, HasSameNames}
use Rattle.pe_supply.specs.Numbers.{distinct}
use Rattle.pe_supply.proofs.Naming.{distinct_new, distinct_old}
use Rattle.pe_supply.proofs.numbers.distinct.Goals as goal
use Rattle.pe_supply.proofs.numbers.distinct.Goals.{then-branch+in_ok-copy+in_ok-push, else-branch}

pub loop-name-preserved : goal.loop-name-preserved
loop-name-preserved c =
    let names = c.args.names.now in
    let name = c.name-item.result in
    let set = c.loop-name.seen in
    let new : c.in_ok-insert.field-0 ≡ not (has_name set name) = c.in_ok-insert.ensures.new ∙ ap (λ n. not (has_name set n)) c.bytes.ensures in
    let added : HasSameNames c.insert.new.self (name ∷ set) = subst (λ n. HasSameNames c.insert.new.self (n ∷ set)) c.bytes.ensures c.in_ok-insert.ensures.added in
    elim c.if-branch.branch [
      | then-branch+in_ok-copy+in_ok-push w ↦
          let pushed : c.if-branch.once ≡ c.loop-name.once ++ name ∷ [] = w.once-is ∙ w.in_ok-push.ensures.ok ∙ ap (λ n. c.loop-name.once ++ n ∷ []) w.in_ok-copy.ensures in
          let r = distinct_new set c.insert.new.self c.loop-name.once names c.loop-name.name-index name (distinct names) c.loop-name-test.true c.name-item.is c.loop-name.invariant.same added (sym new ∙ w.if-branch.true) c.loop-name.invariant.so_far in
          record { same = rw pushed r.0; so_far = rw pushed r.1 }
      | else-branch w ↦
          let r = distinct_old set c.insert.new.self c.loop-name.once names c.loop-name.name-index name (distinct names) c.loop-name-test.true c.name-item.is c.loop-name.invariant.same added (sym new ∙ w.if-branch.false) c.loop-name.invariant.so_far in
          record { same = rw w.once-is r.0; so_far = rw w.once-is r.1 }
    ]
