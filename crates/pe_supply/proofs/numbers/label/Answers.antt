use Rattle.std.proofs.Common.{◌≡◌, ◌+◌, ◌++◌, ◌∷◌, [], true, length, take, get_or, ap, sym, ◌∙◌, subst, arith}
use Rattle.std.proofs.lemmas.List.{take_more, take_all, with_items_is}
use Rattle.pe_base.specs.Names.{has_name, place_of}
use Rattle.pe_supply.specs.Forests.{IsForest, root_of, roots_of}
use Rattle.pe_supply.specs.Labels.{with_joined, AreLabelled}
use Rattle.pe_supply.proofs.Naming.{place_in}
use Rattle.pe_supply.proofs.Joining.{labelled_none}
use Rattle.pe_supply.proofs.Climbing.{forest_none, roots_none, length_roots, labelled_link}
use Rattle.pe_supply.proofs.numbers.label.Goals as goal

pub loop-tie-init : goal.loop-tie-init
loop-tie-init c =
    let names = c.args.names.now in
    rw c.in_ok-above.ensures record {
      forest = forest_none (length names);
      labelled = subst (AreLabelled names []) (sym (roots_none (length names))) (labelled_none names);
    }

pub loop-tie-preserved : goal.loop-tie-preserved
loop-tie-preserved c =
    let names = c.args.names.now in
    let ties = c.args.ties.now in
    let t = c.tie-item.result in
    let n = c.loop-tie.tie-index in
    let old = c.loop-tie.above in
    let new = c.link.new.above in
    let one = c.bytes.ensures in
    let two = c.bytes-in-loop-tie.ensures in
    let item : t ≡ get_or ties n t = c.tie-item.is in
    let i = c.place-i.ensures ∙ ap (λ ns. place_of ns c.bytes.result.now) c.in_ok-index.ensures ∙ ap (place_of names) one in
    let j = c.place-j.ensures ∙ ap (λ ns. place_of ns c.bytes-in-loop-tie.result.now) c.in_ok-index.ensures ∙ ap (place_of names) two in
    let port = subst (λ x. has_name names x.0 ≡ true) (sym item) (c.requires.ports n t c.loop-tie-test.true) in
    let net = subst (λ x. has_name names x.1 ≡ true) (sym item) (c.requires.nets n t c.loop-tie-test.true) in
    let joined = subst (λ xs. roots_of new ≡ with_joined (roots_of xs) (root_of xs c.place-i.result) (root_of xs c.place-j.result)) c.deref_mut.ensures.value c.link.ensures.joined in
    let step = labelled_link names (take n ties) old.items new t.0 t.1 c.place-i.result c.place-j.result c.loop-tie.invariant.labelled port net i j joined in
    let taken : take (n + 1) ties ≡ take n ties ++ t ∷ [] = take_more ties n t c.loop-tie-test.true ∙ ap (λ x. take n ties ++ x ∷ []) (sym item) in
    let is = with_items_is old new (omega (arith, c.link.auto.above, ap length c.deref_mut.ensures.value, old.ok.0)) in
    record {
      forest = subst IsForest (sym is) c.link.ensures.forest;
      labelled = rw (is, taken) step;
    }

pub link-requires : goal.link-requires
link-requires c =
    let names = c.args.names.now in
    let ties = c.args.ties.now in
    let t = c.tie-item.result in
    let n = c.loop-tie.tie-index in
    let one = c.bytes.ensures in
    let two = c.bytes-in-loop-tie.ensures in
    let item : t ≡ get_or ties n t = c.tie-item.is in
    let i = c.place-i.ensures ∙ ap (λ ns. place_of ns c.bytes.result.now) c.in_ok-index.ensures ∙ ap (place_of names) one in
    let j = c.place-j.ensures ∙ ap (λ ns. place_of ns c.bytes-in-loop-tie.result.now) c.in_ok-index.ensures ∙ ap (place_of names) two in
    let first = place_in names t.0 (subst (λ x. has_name names x.0 ≡ true) (sym item) (c.requires.ports n t c.loop-tie-test.true)) in
    let second = place_in names t.1 (subst (λ x. has_name names x.1 ≡ true) (sym item) (c.requires.nets n t c.loop-tie-test.true)) in
    let size : length c.deref_mut.result.now ≡ length names = ap length c.deref_mut.ensures.value ∙ sym (length_roots c.loop-tie.above.items) ∙ c.loop-tie.invariant.labelled.size in
    record {
      forest = subst IsForest (sym c.deref_mut.ensures.value) c.loop-tie.invariant.forest;
      first = omega (arith, first, i, size);
      second = omega (arith, second, j, size);
    }

pub returns : goal.returns
returns c =
    let names = c.args.names.now in
    let ties = c.args.ties.now in
    let above = c.loop-tie.above in
    let new = c.flatten.new.above in
    let is = with_items_is above new (omega (arith, c.flatten.auto.above, ap length c.deref_mut-2.ensures.value, above.ok.0)) in
    let labels : c.from_vec.result ≡ roots_of above.items = c.from_vec.ensures ∙ is ∙ c.flatten.ensures ∙ ap roots_of c.deref_mut-2.ensures.value in
    let labelled : AreLabelled names ties (roots_of above.items) = subst (λ ts. AreLabelled names ts (roots_of above.items)) (take_all c.loop-tie.tie-index ties c.loop-tie-test.false) c.loop-tie.invariant.labelled in
    subst (AreLabelled names ties) (sym labels) labelled
