use Rattle.std.proofs.Common.{◌≡◌, refl}
use Rattle.pe_upf_read.specs.Parts.{bare}
use Rattle.pe_upf_read.proofs.Trees.{shown, of_repeated}
use Rattle.pe_upf_read.proofs.parts.+bare.Goals as goal

pub returns-in_default : goal.returns-in_default
unfolding bare
returns-in_default t c = shown (λ d. d ≡ bare d) _ (record {
  at_leaf = λ k e. refl;
  at_nothing = refl;
  at_pair = λ x y e. refl;
  at_left = λ x e. absurd (c.in_default.not-Left x e);
  at_right = λ x e. absurd (c.in_default.not-Right x e);
  at_repeat = λ xs e. of_repeated (λ d. d ≡ bare d) refl (λ x y. refl) _;
  at_present = λ k x e. refl;
  at_absent = λ k. refl;
  at_once = λ xs e. refl;
})
