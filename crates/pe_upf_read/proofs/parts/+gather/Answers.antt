use Rattle.std.proofs.Common.{◌≡◌, ℕ, ◌+◌, ◌<◌, List, [], ◌∷◌, ◌++◌, length, get_or, take, append-nil, append_assoc, refl, ap, sym, ◌∙◌}
use Rattle.std.specs.Prelude.{map}
use Rattle.std.proofs.lemmas.List.{take_all, take_more}
use Rattle.pe_grammar.specs.declared.terminal.Token.{Token}
use Rattle.pe_grammar.specs.declared.tree.Tree.{Tree}
use Rattle.pe_grammar.specs.Derivation.{Derivation, derivation, text, repeated, done, pair, present, once}
use Rattle.pe_grammar.proofs.Shapes.{pair_is, present_is}
use Rattle.pe_upf_read.specs.Parts.{each}
use Rattle.pe_upf_read.proofs.Trees.{shown}
use Rattle.pe_upf_read.proofs.parts.+gather.Goals as goal

text_push : (ts : List Tree) (t : Tree) → text (repeated (map derivation (ts ++ t ∷ [])) done) ≡ text (repeated (map derivation ts) done) ++ text (derivation t)
text_push [] t = append-nil (text (derivation t))
text_push (u ∷ ts) t = ap (λ x. text (derivation u) ++ x) (text_push ts t) ∙ sym (append_assoc (text (derivation u)) (text (repeated (map derivation ts) done)) (text (derivation t)))

text_step : (old all after : List Token) (ts : List Tree) (i : ℕ) (t : Tree) → i < length ts → t ≡ get_or ts i t → all ≡ old ++ text (repeated (map derivation (take i ts)) done) → after ≡ all ++ text (derivation t) →
    after ≡ old ++ text (repeated (map derivation (take (i + 1) ts)) done)
text_step old all after ts i t h e p q =
    let more = take_more ts i t h ∙ ap (λ u. take i ts ++ u ∷ []) (sym e) in
    q
    ∙ ap (λ x. x ++ text (derivation t)) p
    ∙ append_assoc old (text (repeated (map derivation (take i ts)) done)) (text (derivation t))
    ∙ ap (λ x. old ++ x) (sym (text_push (take i ts) t) ∙ sym (ap (λ us. text (repeated (map derivation us) done)) more))

text_pair : (old middle after : List Token) (d x y : Derivation) → d ≡ pair x y → middle ≡ old ++ text x → after ≡ middle ++ text y → after ≡ old ++ text d
text_pair old middle after d x y e p q = q ∙ ap (λ m. m ++ text y) p ∙ append_assoc old (text x) (text y) ∙ ap (λ v. old ++ text v) (sym e)

text_present : (old middle after : List Token) (d x : Derivation) (k : Token) → d ≡ present k x → middle ≡ old ++ k ∷ [] → after ≡ middle ++ text x → after ≡ old ++ text d
text_present old middle after d x k e p q = q ∙ ap (λ m. m ++ text x) p ∙ append_assoc old (k ∷ []) (text x) ∙ ap (λ v. old ++ text v) (sym e)

each_repeated : (ds : List Derivation) → text (repeated (each (repeated ds done)) done) ≡ text (repeated ds done)
unfolding each
each_repeated [] = refl
each_repeated (d ∷ ds) = ap (λ x. text d ++ x) (each_repeated ds)

each_once : (ds : List Derivation) → text (repeated (each (once (repeated ds done))) done) ≡ text (repeated ds done)
unfolding each
each_once ds = each_repeated ds

pub loop-item-preserved : goal.loop-item-preserved
loop-item-preserved t c = text_step _ _ _ _ _ _ c.loop-item-test.true c.item-item.is c.loop-item.invariant c.in_ok-gather-in_default.ensures

pub returns-in_ok-gather-in-Pair-2 : goal.returns-in_ok-gather-in-Pair-2
returns-in_ok-gather-in-Pair-2 t c = text_pair _ _ _ _ _ _ (pair_is _ _ _ c.in-Pair.is c.get.ensures) c.in_ok-gather-in-Pair.ensures c.in_ok-gather-in-Pair-2.ensures

pub returns-in_ok-gather-in-Present : goal.returns-in_ok-gather-in-Present
returns-in_ok-gather-in-Present t c =
    text_present _ _ _ _ _ _ (present_is _ _ _ c.in-Present.is c.get-in-Present.ensures) c.in_ok-push-in-Present.ensures.ok c.in_ok-gather-in-Present.ensures

pub returns-after-loop-item : goal.returns-after-loop-item
unfolding each
returns-after-loop-item t c =
    let old = c.args.all.now in
    let ts = c.each-item-items.result.now in
    let same : text (repeated (each (derivation c.args.tree.now)) done) ≡ text (derivation c.args.tree.now) =
    shown (λ d. text (repeated (each d) done) ≡ text d) _ (record {
      at_leaf = λ k e. absurd (c.in_default.not-Leaf k e);
      at_nothing = refl;
      at_pair = λ x y e. absurd (c.in_default.not-Pair (x, y) e);
      at_left = λ x e. absurd (c.in_default.not-Left x e);
      at_right = λ x e. absurd (c.in_default.not-Right x e);
      at_repeat = λ xs e. each_repeated (map derivation xs);
      at_present = λ k x e. absurd (c.in_default.not-Present (k, x) e);
      at_absent = λ k. refl;
      at_once = λ xs e. each_once (map derivation xs);
    }) in
    c.loop-item.invariant
    ∙ ap (λ us. old ++ text (repeated (map derivation us) done)) (take_all _ ts c.loop-item-test.false)
    ∙ ap (λ ds. old ++ text (repeated ds done)) c.each-item-items.ensures.is
    ∙ ap (λ x. old ++ x) same
