use Rattle.std.proofs.Common.{◌≡◌, ◌++◌, ◌∷◌, [], true, false, not, take, Some, refl, ap, sym, ◌∙◌}
use Rattle.pe_base.specs.Names.{has_name}
use Rattle.pe_supply.specs.Drivers.{is_elsewhere}
use Rattle.pe_supply.proofs.Elsewhere.{elsewhere_is, found_there, found_later, kept_behind_new, kept_behind_old}
use Rattle.pe_supply.proofs.drivers.first_elsewhere.Goals as goal
use Rattle.pe_supply.proofs.drivers.first_elsewhere.Goals.{then-branch+in_ok-push, else-branch}

pub returns-then-is_elsewhere : goal.returns-then-is_elsewhere
returns-then-is_elsewhere c =
    let nets = c.args.nets.now in
    let ties = c.args.ties.now in
    let i = c.loop-tie.tie-index in
    let tie = c.tie-item.result in
    let test = elsewhere_is c.in_ok-known.known nets c.loop-tie.ports c.loop-tie.firsts c.as_slice.result.now (take i ties) tie c.in_ok-known.ensures c.loop-tie.invariant.kept c.as_slice.ensures in
    let yes : is_elsewhere nets (take i ties) tie ≡ true = sym test ∙ sym c.is_elsewhere.ensures ∙ c.if-is_elsewhere.true in
    ap (λ n. Some n) c.in_ok-port.ensures ∙ sym (c.loop-tie.invariant.so_far ∙ found_there nets ties i tie c.loop-tie-test.true c.tie-item.is yes)

pub loop-tie-preserved : goal.loop-tie-preserved
loop-tie-preserved c =
    let nets = c.args.nets.now in
    let ties = c.args.ties.now in
    let i = c.loop-tie.tie-index in
    let tie = c.tie-item.result in
    let ports = c.loop-tie.ports in
    let firsts = c.loop-tie.firsts in
    let kept = c.loop-tie.invariant.kept in
    let test = elsewhere_is c.in_ok-known.known nets ports firsts c.as_slice.result.now (take i ties) tie c.in_ok-known.ensures kept c.as_slice.ensures in
    let no : is_elsewhere nets (take i ties) tie ≡ false = sym test ∙ sym c.is_elsewhere.ensures ∙ c.if-is_elsewhere.false in
    let new : c.in_ok-insert.field-0 ≡ not (has_name ports tie.0) = c.in_ok-insert.ensures.new ∙ ap (λ p. not (has_name ports p)) c.bytes.ensures in
    record {
      so_far = c.loop-tie.invariant.so_far ∙ found_later nets ties i tie c.loop-tie-test.true c.tie-item.is no;
      kept = elim c.if-branch.branch [
        | then-branch+in_ok-push w ↦
            let added : c.insert.new.self ≡ ports ++ tie.0 ∷ [] = c.in_ok-insert.ensures.added w.if-branch.true ∙ ap (λ p. ports ++ p ∷ []) c.bytes.ensures in
            kept_behind_new nets ties i tie c.loop-tie-test.true c.tie-item.is ports c.insert.new.self firsts c.if-branch.firsts _ kept (sym new ∙ w.if-branch.true) added (w.firsts-is ∙ w.in_ok-push.ensures.ok) refl
        | else-branch w ↦
            kept_behind_old nets ties i tie c.loop-tie-test.true c.tie-item.is ports c.insert.new.self firsts c.if-branch.firsts kept (sym new ∙ w.if-branch.false) (c.in_ok-insert.ensures.there w.if-branch.false) w.firsts-is no
      ];
    }
