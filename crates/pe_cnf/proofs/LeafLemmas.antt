-- The list of a cone's leaves.
use Rattle.std.proofs.Common.{◌≡◌, ℕ, zero, suc, ◌+◌, ◌-◌, ◌<◌, ◌⊎◌, Bool, true, false, List, [], ◌∷◌, ◌++◌, length, get_or, refl, sym, ap, ◌∙◌, subst, arith, inl, inr, eq-eqb}
use Rattle.std.specs.Bool.{IsTrue}
use Rattle.std.proofs.lemmas.Bool.{eqb-true}
use Rattle.std.proofs.lemmas.List.{length_push, get_or_push, get_or_append_left}
use Rattle.pe_graph.specs.declared.graph.Node.{Node}
use Rattle.pe_graph.specs.declared.graph.Node.TheVariants.{True, Leaf, And}
use Rattle.pe_graph.specs.Nodes.{node_at}
use Rattle.pe_graph.specs.Cone.{is_leaf, has_leaf}
use Rattle.pe_cnf.specs.Cone.{leaf_number, AreLeaves, HasLeaves, HasJust}
use Rattle.pe_cnf.specs.Marks.{entry_of, IsLeafTable, IsListOf}
use Rattle.pe_cnf.proofs.MarkLemmas.{or_cases, or_left, or_right, not_both}

lt_or_at : (i n : ℕ) → i < n + 1 → (i < n) ⊎ (i ≡ n)
lt_or_at i n h = grind arith

-- an entry that is 0
pub list_skip : (table : List ℕ) (n : ℕ) (leaves : List (ℕ × ℕ)) → entry_of table n ≡ 0 → IsListOf table n leaves → IsListOf table (n + 1) leaves
list_skip table n leaves e s = record {
  rise = s.rise;
  each = λ i h. let r = s.each i h in (omega (arith, r.0), r.1);
  all = λ k lt h.
      elim (lt_or_at k n lt) [
        | inl less ↦ s.all k less h
        | inr at ↦ let z : entry_of table k ≡ 0 = ap (entry_of table) at ∙ e in absurd (omega arith)
      ];
}

old_leaf : (leaves : List (ℕ × ℕ)) (x : ℕ × ℕ) (i : ℕ) → i < length leaves → get_or (leaves ++ x ∷ []) i (0, 0) ≡ get_or leaves i (0, 0)
old_leaf leaves x i h = get_or_append_left leaves (x ∷ []) (0, 0) i h

new_leaf : (leaves : List (ℕ × ℕ)) (x : ℕ × ℕ) (i : ℕ) → i ≡ length leaves → get_or (leaves ++ x ∷ []) i (0, 0) ≡ x
new_leaf leaves x i h = get_or_push leaves x (0, 0) i (sym h)

-- and one that is not
pub list_push : (table : List ℕ) (n entry : ℕ) (leaves now : List (ℕ × ℕ)) → entry_of table n ≡ entry → 0 < entry → now ≡ leaves ++ (n, entry - 1) ∷ [] → IsListOf table n leaves → IsListOf table (n + 1) now
list_push table n entry leaves now e above is s =
    let x : ℕ × ℕ = (n, entry - 1) in
    let size = length_push leaves x in
    rw is (record {
      rise = λ i j lt h.
          elim (lt_or_at j (length leaves) (omega arith)) [
            | inl less ↦
                let e : leaf_number (leaves ++ x ∷ []) j ≡ leaf_number leaves j = ap (λ (l : ℕ × ℕ). l.0) (old_leaf leaves x j less) in
                let f : leaf_number (leaves ++ x ∷ []) i ≡ leaf_number leaves i = ap (λ (l : ℕ × ℕ). l.0) (old_leaf leaves x i (omega arith)) in
                let r = s.rise i j lt less in
                omega arith
            | inr at ↦
                let e : leaf_number (leaves ++ x ∷ []) j ≡ n = ap (λ (l : ℕ × ℕ). l.0) (new_leaf leaves x j at) in
                let f : leaf_number (leaves ++ x ∷ []) i ≡ leaf_number leaves i = ap (λ (l : ℕ × ℕ). l.0) (old_leaf leaves x i (omega arith)) in
                let r = (s.each i (omega arith)).0 in
                omega arith
          ];
      each = λ i h.
          elim (lt_or_at i (length leaves) (omega arith)) [
            | inl less ↦
                let r = s.each i less in
                let P : ℕ × ℕ → Type 0 = λ (l : ℕ × ℕ). (l.0 < n + 1) × (entry_of table l.0 ≡ l.1 + 1) in
                subst P (sym (old_leaf leaves x i less)) (omega (arith, r.0), r.1)
            | inr at ↦
                let P : ℕ × ℕ → Type 0 = λ (l : ℕ × ℕ). (l.0 < n + 1) × (entry_of table l.0 ≡ l.1 + 1) in
                let last : entry ≡ (entry - 1) + 1 = omega arith in
                subst P (sym (new_leaf leaves x i at)) (omega arith, e ∙ last)
          ];
      all = λ k lt h.
          elim (lt_or_at k n lt) [
            | inl less ↦ let r = s.all k less h in (r.0, omega (arith, r.1), ap (λ (l : ℕ × ℕ). l.0) (old_leaf leaves x r.0 r.1) ∙ r.2)
            | inr at ↦ (length leaves, omega arith, ap (λ (l : ℕ × ℕ). l.0) (new_leaf leaves x (length leaves) refl) ∙ sym at)
          ];
    })

-- no leaf stands past the end
pub no_leaf_past : (nodes : List Node) (x k : ℕ) → node_at nodes x ≡ Leaf k → x < length nodes
no_leaf_past [] x k e = absurd cc
no_leaf_past (n ∷ nodes) zero k e = omega arith
no_leaf_past (n ∷ nodes) (suc x) k e = let h = no_leaf_past nodes x k e in omega arith

-- the leaves of the table are those of the cone
pub listed_leaves : (cone : ℕ → Bool) (variable : ℕ → ℕ) (nodes : List Node) (width : ℕ) (table : List ℕ) (leaves : List (ℕ × ℕ)) → HasLeaves nodes width → length table ≡ width → IsLeafTable cone variable nodes (length nodes) table → IsListOf table (length table) leaves → AreLeaves cone variable nodes leaves
listed_leaves cone variable nodes width table leaves within room t s = record {
  rise = s.rise;
  each = λ i h.
      let r = s.each i h in
      let k = leaf_number leaves i in
      let f = t.found k (omega (arith, r.1)) in
      (f.0, f.1, f.2, let a = f.3 in let b = r.1 in omega arith);
  all = λ x k marked is. s.all k (let w = within x k is in omega arith) (t.all x k (no_leaf_past nodes x k is) marked is);
}

leaf_there : (nodes : List Node) (x k : ℕ) → node_at nodes x ≡ Leaf k → has_leaf nodes k ≡ true
leaf_there [] x k e = absurd cc
leaf_there (n ∷ nodes) zero k e = or_left (is_leaf k n) _ (ap (is_leaf k) e ∙ eq-eqb k k refl)
leaf_there (n ∷ nodes) (suc x) k e = or_right (is_leaf k n) _ (leaf_there nodes x k e)

true_is : (b : Bool) → b ≡ true → IsTrue b
true_is true e = refl
true_is false e = absurd (not_both false e refl)

-- where a job has just its leaves, they have numbers below their count
pub leaves_within : (nodes : List Node) (n : ℕ) → HasJust nodes n → HasLeaves nodes n
leaves_within nodes n each x k e = (each k).0 (true_is (has_leaf nodes k) (leaf_there nodes x k e))

pub leaf_is_there : (nodes : List Node) (x k : ℕ) → node_at nodes x ≡ Leaf k → IsTrue (has_leaf nodes k)
leaf_is_there nodes x k e = true_is (has_leaf nodes k) (leaf_there nodes x k e)

is_leaf_of : (k : ℕ) (node : Node) → is_leaf k node ≡ true → node ≡ Leaf k
is_leaf_of k True h = absurd (not_both false h refl)
is_leaf_of k (Leaf l) h = ap Leaf (eqb-true l k h)
is_leaf_of k (And a b) h = absurd (not_both false h refl)

-- a leaf that is there is one of the nodes
pub leaf_found : (nodes : List Node) (k : ℕ) → has_leaf nodes k ≡ true → (x : ℕ) × (x < length nodes) × (node_at nodes x ≡ Leaf k)
leaf_found [] k h = absurd (not_both false h refl)
leaf_found (n ∷ nodes) k h = elim (or_cases (is_leaf k n) (has_leaf nodes k) h) [
  | inl here ↦ (0, omega arith, is_leaf_of k n here)
  | inr later ↦ let r = leaf_found nodes k later in (suc r.0, omega (arith, r.1), r.2)
]

-- the two ways of it together
pub has_just : (nodes : List Node) (n : ℕ) → HasLeaves nodes n → ((k : ℕ) → k < n → IsTrue (has_leaf nodes k)) → HasJust nodes n
has_just nodes n below each k = (λ t. let r = leaf_found nodes k t in below r.0 k r.2, each k)
