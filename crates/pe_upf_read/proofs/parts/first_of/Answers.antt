use Rattle.std.proofs.Common.{◌≡◌, refl}
use Rattle.pe_upf_read.specs.Parts.{first_of}
use Rattle.pe_upf_read.proofs.Trees.{shown, of_repeated}
use Rattle.pe_upf_read.proofs.parts.first_of.Goals as goal

pub returns-in_default : goal.returns-in_default
unfolding first_of
returns-in_default c = shown (λ d. d ≡ first_of d) _ (record {
  at_leaf = λ k e. refl;
  at_nothing = refl;
  at_pair = λ x y e. absurd (c.in_default.not-Pair (x, y) e);
  at_left = λ x e. refl;
  at_right = λ x e. refl;
  at_repeat = λ xs e. of_repeated (λ d. d ≡ first_of d) refl (λ x y. refl) _;
  at_present = λ k x e. refl;
  at_absent = λ k. refl;
  at_once = λ xs e. refl;
})
