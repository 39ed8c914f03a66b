-- What derivation a tree is, by its variant.
use Rattle.std.proofs.Common.{◌≡◌, ℕ, List, [], ◌∷◌, ◌++◌, sym, refl, ap, ◌∙◌}
use Rattle.std.specs.Prelude.{map}
use Rattle.pe_grammar.specs.declared.terminal.Token.{Token}
use Rattle.pe_grammar.specs.declared.tree.Tree.{Tree, fold-Tree, fold-roll-Tree}
use Rattle.pe_grammar.specs.declared.tree.Tree.TheVariants.{Leaf, Empty, Pair, Left, Right, Repeat, Present, Absent, Once, rolls-Once, rolls-Present, rolls-Absent, rolls-Leaf, rolls-Empty, rolls-Pair, rolls-Left, rolls-Right, rolls-Repeat}
use Rattle.pe_grammar.specs.declared.tree.Tree.TheOpen as layer
use Rattle.pe_grammar.specs.Derivation.{Derivation, derivation, layer_of, leaf, nothing, pair, left, right, done, more, repeated, present, absent, once}

pub derivation-Leaf : (t : Token) → derivation (Leaf t) ≡ leaf t
unfolding derivation
derivation-Leaf t = ap (fold-Tree Derivation layer_of) (sym (rolls-Leaf t)) ∙ fold-roll-Tree Derivation layer_of (layer.Leaf t)

pub derivation-Empty : derivation Empty ≡ nothing
unfolding derivation
derivation-Empty = ap (fold-Tree Derivation layer_of) (sym rolls-Empty) ∙ fold-roll-Tree Derivation layer_of layer.Empty

pub derivation-Pair : (l r : Tree) → derivation (Pair (l, r)) ≡ pair (derivation l) (derivation r)
unfolding derivation
derivation-Pair l r = ap (fold-Tree Derivation layer_of) (sym (rolls-Pair (l, r))) ∙ fold-roll-Tree Derivation layer_of (layer.Pair (l, r))

pub derivation-Left : (l : Tree) → derivation (Left l) ≡ left (derivation l)
unfolding derivation
derivation-Left l = ap (fold-Tree Derivation layer_of) (sym (rolls-Left l)) ∙ fold-roll-Tree Derivation layer_of (layer.Left l)

pub derivation-Right : (l : Tree) → derivation (Right l) ≡ right (derivation l)
unfolding derivation
derivation-Right l = ap (fold-Tree Derivation layer_of) (sym (rolls-Right l)) ∙ fold-roll-Tree Derivation layer_of (layer.Right l)

pub derivation-Repeat : (ts : List Tree) → derivation (Repeat ts) ≡ repeated (map derivation ts) done
unfolding derivation
derivation-Repeat ts = ap (fold-Tree Derivation layer_of) (sym (rolls-Repeat ts)) ∙ fold-roll-Tree Derivation layer_of (layer.Repeat ts)

pub derivation-Present : (t : Token) (l : Tree) → derivation (Present (t, l)) ≡ present t (derivation l)
unfolding derivation
derivation-Present t l = ap (fold-Tree Derivation layer_of) (sym (rolls-Present (t, l))) ∙ fold-roll-Tree Derivation layer_of (layer.Present (t, l))

pub derivation-Absent : (k : ℕ) → derivation (Absent k) ≡ absent k
unfolding derivation
derivation-Absent k = ap (fold-Tree Derivation layer_of) (sym (rolls-Absent k)) ∙ fold-roll-Tree Derivation layer_of (layer.Absent k)

pub derivation-Once : (ts : List Tree) → derivation (Once ts) ≡ once (repeated (map derivation ts) done)
unfolding derivation
derivation-Once ts = ap (fold-Tree Derivation layer_of) (sym (rolls-Once ts)) ∙ fold-roll-Tree Derivation layer_of (layer.Once ts)

pub repeated_push : (ts : List Tree) (t : Tree) (end : Derivation) → repeated (map derivation (ts ++ t ∷ [])) end ≡ repeated (map derivation ts) (more (derivation t) end)
repeated_push [] t end = refl
repeated_push (u ∷ ts) t end = ap (λ d. more (derivation u) d) (repeated_push ts t end)

pub ruleset layers = (derivation-Leaf, derivation-Empty, derivation-Pair, derivation-Left, derivation-Right, derivation-Repeat, derivation-Present, derivation-Absent, derivation-Once)
