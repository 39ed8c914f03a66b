use Rattle.std.proofs.Common.{◌≡◌, ◌++◌, ◌∷◌, [], true, false, cond, ap, sym, ◌∙◌, append-nil}
use Rattle.std.specs.Prelude.{filter}
use Rattle.std.specs.List.{range_with_len}
use Rattle.pe_supply.specs.Drivers.{is_root}
use Rattle.pe_supply.proofs.Gatherings.{filter_range}
use Rattle.pe_supply.proofs.drivers.roots.Goals as goal
use Rattle.pe_supply.proofs.drivers.roots.Goals.{then-is_root+in_ok-push, else-is_root}

pub loop-supply-preserved : goal.loop-supply-preserved
loop-supply-preserved c =
    let p = is_root c.args.edges.now in
    let n = c.loop-supply.supply in
    let more = filter_range p n in
    elim c.if-is_root.branch [
      | then-is_root+in_ok-push w ↦
          let yes : is_root c.args.edges.now n ≡ true = sym c.is_root.ensures ∙ w.if-is_root.true in
          w.roots-is ∙ w.in_ok-push.ensures.ok ∙ ap (λ xs. xs ++ n ∷ []) c.loop-supply.invariant ∙ sym (more ∙ ap (λ b. filter p (range_with_len 0 n) ++ cond b (n ∷ []) []) yes)
      | else-is_root w ↦
          let no : is_root c.args.edges.now n ≡ false = sym c.is_root.ensures ∙ w.if-is_root.false in
          w.roots-is ∙ c.loop-supply.invariant ∙ sym (more ∙ ap (λ b. filter p (range_with_len 0 n) ++ cond b (n ∷ []) []) no ∙ append-nil (filter p (range_with_len 0 n)))
    ]
