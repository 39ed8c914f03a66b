use Rattle.std.proofs.Common.{◌≡◌, List, [], ◌∷◌, refl, ap, sym, ◌∙◌}
use Rattle.pe_grammar.specs.Derivation.{Derivation, repeated, done, once}
use Rattle.pe_grammar.proofs.Shapes.{repeat_is, once_is, element_smaller, option_smaller}
use Rattle.pe_upf_read.specs.Parts.{each}
use Rattle.pe_upf_read.proofs.Trees.{shown}
use Rattle.pe_upf_read.proofs.parts.each.Goals as goal

each_repeated : (ds : List Derivation) → ds ≡ each (repeated ds done)
unfolding each
each_repeated [] = refl
each_repeated (d ∷ ds) = ap (λ es. d ∷ es) (each_repeated ds)

each_once : (ds : List Derivation) → ds ≡ each (once (repeated ds done))
unfolding each
each_once ds = each_repeated ds

pub returns-in-Repeat-clause-is : goal.returns-in-Repeat-clause-is
returns-in-Repeat-clause-is c = each_repeated _ ∙ sym (ap each (repeat_is _ _ _ c.in-Repeat.is (c.as_slice.ensures ∙ c.get.ensures)))

pub returns-in-Repeat-clause-smaller : goal.returns-in-Repeat-clause-smaller
returns-in-Repeat-clause-smaller c = element_smaller _ _ _ c.in-Repeat.is (c.as_slice.ensures ∙ c.get.ensures)

pub returns-in-Once-clause-is : goal.returns-in-Once-clause-is
returns-in-Once-clause-is c = each_once _ ∙ sym (ap each (once_is _ _ _ c.in-Once.is (c.as_slice-in-Once.ensures ∙ c.get-in-Once.ensures)))

pub returns-in-Once-clause-smaller : goal.returns-in-Once-clause-smaller
returns-in-Once-clause-smaller c = option_smaller _ _ _ c.in-Once.is (c.as_slice-in-Once.ensures ∙ c.get-in-Once.ensures)

pub returns-in_default-clause-is : goal.returns-in_default-clause-is
unfolding each
returns-in_default-clause-is c = shown (λ d. [] ≡ each d) _ (record {
  at_leaf = λ k e. refl;
  at_nothing = refl;
  at_pair = λ x y e. refl;
  at_left = λ x e. refl;
  at_right = λ x e. refl;
  at_repeat = λ xs e. absurd (c.in_default.not-Repeat xs e);
  at_present = λ k x e. refl;
  at_absent = λ k. refl;
  at_once = λ xs e. absurd (c.in_default.not-Once xs e);
})
