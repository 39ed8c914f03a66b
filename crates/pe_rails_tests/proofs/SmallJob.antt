-- A job whose graph is one leaf.
use Rattle.std.proofs.Common.{◌≡◌, ◌↔◌, ℕ, zero, suc, ◌<◌, ◌≤◌, List, [], ◌∷◌, length, refl, sym, ◌∙◌, arith, inl, inr}
use Rattle.std.specs.Prelude.{All, ◌≢◌, IsTrue, slice_index_or}
use Rattle.std.proofs.lemmas.Bool.{false≢true}
use Rattle.std.proofs.lemmas.Bool.Decides.{eqb_tells}
use Rattle.std.proofs.lemmas.List.Elements.{All-head, All-tail}
use Rattle.pe_graph.specs.declared.graph.Node.{Node}
use Rattle.pe_graph.specs.declared.graph.Node.TheVariants.{True, Leaf}
use Rattle.pe_graph.specs.declared.job.Goal.{Goal}
use Rattle.pe_graph.specs.Literals.{var_of}
use Rattle.pe_graph.specs.Nodes.{IsGraph, StandsFor}
use Rattle.pe_graph.specs.Cone.{has_leaf, IsConeLeaf, HasSmallCone}

true_is_no_leaf : (k a b : ℕ) → True ≡ Leaf k → a ≡ b
true_is_no_leaf k a b e = cc

pub two_nodes : (nodes : List Node) (l : ℕ) → IsGraph nodes → StandsFor nodes (Leaf 0) l → length nodes ≤ 2 → nodes ≡ True ∷ Leaf 0 ∷ []
two_nodes [] l graph stands few = let some = graph.some in absurd (omega arith)
two_nodes (x ∷ []) l graph stands few =
    let i = stands.inside in
    let first : var_of l ≡ 0 = omega arith in
    let e : x ≡ Leaf 0 = rw first at stands.is in
    let none = true_is_no_leaf 0 0 1 (sym graph.first ∙ e) in
    absurd (omega arith)
two_nodes (x ∷ y ∷ []) l graph stands few =
    elim (eqb_tells (var_of l) 0) [
      | inl t ↦ let e : x ≡ Leaf 0 = rw t.1 at stands.is in let none = true_is_no_leaf 0 0 1 (sym graph.first ∙ e) in absurd (omega arith)
      | inr f ↦ let i = stands.inside in let n = f.1 in let second : var_of l ≡ 1 = omega arith in let e : y ≡ Leaf 0 = rw second at stands.is in rw (graph.first, e) refl
    ]
two_nodes (x ∷ y ∷ z ∷ zs) l graph stands few = absurd (omega arith)

pub one_leaf : (k : ℕ) → IsTrue (has_leaf (True ∷ Leaf 0 ∷ []) k) ↔ (k < 1)
one_leaf zero = (λ h. omega arith, λ h. refl)
one_leaf (suc k) =
    elim (eqb_tells 0 (suc k)) [
      | inl t ↦ let e = t.1 in absurd (omega arith)
      | inr f ↦ (λ h. absurd (false≢true (rw f.0 at h)), λ h. absurd (omega arith))
    ]

cone_leaf : (g : Goal) (k : ℕ) → IsConeLeaf (True ∷ Leaf 0 ∷ []) g k → k ≡ 0
cone_leaf g k (zero, e, r) = let none = true_is_no_leaf k 0 1 e in absurd (omega arith)
cone_leaf g k (suc zero, e, r) = cc
cone_leaf g k (suc (suc x), e, r) = let none = true_is_no_leaf k 0 1 e in absurd (omega arith)

pub one_in_cone : (g : Goal) → g.leaves ≡ 1 → HasSmallCone (True ∷ Leaf 0 ∷ []) g
one_in_cone g n [] apart all = omega arith
one_in_cone g n (a ∷ []) apart all = omega arith
one_in_cone g n (a ∷ b ∷ more) apart all =
    let P = IsConeLeaf (True ∷ Leaf 0 ∷ []) g in
    let first = cone_leaf g a (All-head P a (b ∷ more) all) in
    let second = cone_leaf g b (All-head P b more (All-tail P a (b ∷ more) all)) in
    absurd (apart 0 1 0 (omega arith) (omega arith) (first ∙ sym second))

only : (g : Goal) → g.leaves ≡ 1 → (k : ℕ) (d : Goal) → k < 1 → HasSmallCone (True ∷ Leaf 0 ∷ []) (slice_index_or (g ∷ []) k d)
only g n zero d lt = one_in_cone g n
only g n (suc k) d lt = absurd (omega arith)

pub small_goals : (goals : List Goal) (g : Goal) → goals ≡ g ∷ [] → g.leaves ≡ 1 → All (HasSmallCone (True ∷ Leaf 0 ∷ [])) goals
small_goals goals g is n = rw is (λ k d lt. only g n k d lt)
