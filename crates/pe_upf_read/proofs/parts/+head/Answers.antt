use Rattle.std.proofs.Common.{◌≡◌, refl}
use Rattle.pe_upf_read.specs.Parts.{head_of}
use Rattle.pe_upf_read.specs.declared.table.TheConstants.{OTHER}
use Rattle.pe_upf_read.proofs.Trees.{shown, of_repeated}
use Rattle.pe_upf_read.proofs.parts.+head.Goals as goal

pub returns-in_default : goal.returns-in_default
unfolding head_of
returns-in_default t c = shown (λ d. OTHER ≡ head_of d) _ (record {
  at_leaf = λ k e. absurd (c.in_default.not-Leaf k e);
  at_nothing = refl;
  at_pair = λ x y e. absurd (c.in_default.not-Pair (x, y) e);
  at_left = λ x e. absurd (c.in_default.not-Left x e);
  at_right = λ x e. absurd (c.in_default.not-Right x e);
  at_repeat = λ xs e. of_repeated (λ d. OTHER ≡ head_of d) refl (λ x y. refl) _;
  at_present = λ k x e. refl;
  at_absent = λ k. refl;
  at_once = λ xs e. refl;
})
