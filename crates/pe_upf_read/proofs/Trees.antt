-- Which derivation a tree is, where some of its variants are known.
use Rattle.std.proofs.Common.{◌≡◌, ℕ, List, [], ◌∷◌, sym, ap, subst, ◌∙◌}
use Rattle.std.specs.Prelude.{map}
use Rattle.pe_grammar.specs.declared.terminal.Token.{Token}
use Rattle.pe_grammar.specs.declared.tree.Tree.{Tree, Tree-F, out-Tree, roll-Tree, roll-out-Tree}
use Rattle.pe_grammar.specs.declared.tree.Tree.TheVariants.{Leaf, Empty, Pair, Left, Right, Repeat, Present, Absent, Once, rolls-Once, rolls-Present, rolls-Absent, rolls-Leaf, rolls-Empty, rolls-Pair, rolls-Left, rolls-Right, rolls-Repeat}
use Rattle.pe_grammar.specs.declared.tree.Tree.TheOpen as layer
use Rattle.pe_grammar.specs.Derivation.{Derivation, derivation, leaf, nothing, pair, left, right, done, more, repeated, present, absent, once}
use Rattle.pe_grammar.proofs.Trees.{derivation-Leaf, derivation-Empty, derivation-Pair, derivation-Left, derivation-Right, derivation-Repeat, derivation-Present, derivation-Absent, derivation-Once}

-- what is to be shown of the derivation of a tree, for each variant that the tree can be
pub record Shown (P : Derivation → Type 0) (t : Tree) : Type 0 where
  pub at_leaf : (k : Token) → t ≡ Leaf k → P (leaf k)
  pub at_nothing : P nothing
  pub at_pair : (x y : Tree) → t ≡ Pair (x, y) → P (pair (derivation x) (derivation y))
  pub at_left : (x : Tree) → t ≡ Left x → P (left (derivation x))
  pub at_right : (x : Tree) → t ≡ Right x → P (right (derivation x))
  pub at_repeat : (xs : List Tree) → t ≡ Repeat xs → P (repeated (map derivation xs) done)
  pub at_present : (k : Token) (x : Tree) → t ≡ Present (k, x) → P (present k (derivation x))
  pub at_absent : (k : ℕ) → P (absent k)
  pub at_once : (xs : List Tree) → t ≡ Once xs → P (once (repeated (map derivation xs) done))

moved : (P : Derivation → Type 0) (t u : Tree) (d : Derivation) → u ≡ t → derivation t ≡ d → P d → P (derivation u)
moved P t u d p q h = subst P (sym (ap derivation p ∙ q)) h

shown_layer : (P : Derivation → Type 0) (l : Tree-F Tree) → Shown P (roll-Tree l) → P (derivation (roll-Tree l))
shown_layer P (layer.Leaf k) s = moved P (Leaf k) _ (leaf k) (rolls-Leaf k) (derivation-Leaf k) (s.at_leaf k (rolls-Leaf k))
shown_layer P layer.Empty s = moved P Empty _ nothing rolls-Empty derivation-Empty s.at_nothing
shown_layer P (layer.Pair p) s = moved P (Pair (p.0, p.1)) _ _ (rolls-Pair p) (derivation-Pair p.0 p.1) (s.at_pair p.0 p.1 (rolls-Pair p))
shown_layer P (layer.Left x) s = moved P (Left x) _ _ (rolls-Left x) (derivation-Left x) (s.at_left x (rolls-Left x))
shown_layer P (layer.Right x) s = moved P (Right x) _ _ (rolls-Right x) (derivation-Right x) (s.at_right x (rolls-Right x))
shown_layer P (layer.Repeat xs) s = moved P (Repeat xs) _ _ (rolls-Repeat xs) (derivation-Repeat xs) (s.at_repeat xs (rolls-Repeat xs))
shown_layer P (layer.Present p) s = moved P (Present (p.0, p.1)) _ _ (rolls-Present p) (derivation-Present p.0 p.1) (s.at_present p.0 p.1 (rolls-Present p))
shown_layer P (layer.Absent k) s = moved P (Absent k) _ _ (rolls-Absent k) (derivation-Absent k) (s.at_absent k)
shown_layer P (layer.Once xs) s = moved P (Once xs) _ _ (rolls-Once xs) (derivation-Once xs) (s.at_once xs (rolls-Once xs))

pub shown : (P : Derivation → Type 0) (t : Tree) → Shown P t → P (derivation t)
shown P t s = subst (λ u. Shown P u → P (derivation u)) (roll-out-Tree t) (shown_layer P (out-Tree t)) s

-- what holds of each repetition
pub of_repeated : (P : Derivation → Type 0) → P done → ((d e : Derivation) → P (more d e)) → (ds : List Derivation) → P (repeated ds done)
of_repeated P p q [] = p
of_repeated P p q (d ∷ ds) = q d (repeated ds done)
