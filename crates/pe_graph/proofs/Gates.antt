-- The values of constants, complements and gates.
use Rattle.std.proofs.Common.{◌≡◌, ℕ, ◌+◌, ◌-◌, ◌%◌, ◌≤◌, Bool, true, false, cond, not, ◌&&◌, ◌||◌, Some, List, get_or, refl, sym, ap, ◌∙◌, arith, inl, inr}
use Rattle.std.proofs.lemmas.Bool.Decides.{eqb_tells}
use Rattle.pe_graph.specs.declared.graph.Node.{Node}
use Rattle.pe_graph.specs.declared.graph.Node.TheVariants.{True}
use Rattle.pe_graph.specs.Literals.{var_of, is_negated, complement_of, truth_of}
use Rattle.pe_graph.specs.Nodes.{values, value_in, IsIn, IsGraph, Gives, known_and}
use Rattle.pe_graph.proofs.Growth.{grows_not, value_in-plain}

-- a literal and its complement have one node
pub var_of-complement_of : (l : ℕ) → var_of (complement_of l) ≡ var_of l
var_of-complement_of l =
    elim (eqb_tells (l % 2) 1) [
      | inl t ↦ rw t.0 (omega arith)
      | inr f ↦ rw f.0 (omega arith)
    ]

pub is_negated-complement_of : (l : ℕ) → is_negated (complement_of l) ≡ not (is_negated l)
is_negated-complement_of l =
    elim (eqb_tells (l % 2) 1) [
      | inl t ↦ let even : (l - 1) % 2 ≡ 0 = omega arith in rw (t.0, even) refl
      | inr f ↦ let odd : (l + 1) % 2 ≡ 1 = omega arith in rw (f.0, odd) refl
    ]

not_cond : (t x : Bool) → cond (not t) (not x) x ≡ not (cond t (not x) x)
not_cond true true = refl
not_cond true false = refl
not_cond false x = refl

pub value_in-complement_of : (v : ℕ → Bool) (nodes : List Node) (l : ℕ) → value_in v nodes (complement_of l) ≡ not (value_in v nodes l)
value_in-complement_of v nodes l =
    rw (var_of-complement_of l, is_negated-complement_of l) (not_cond (is_negated l) (get_or (values v nodes) (var_of l) false))

pub IsIn-complement_of : (nodes : List Node) (l : ℕ) → IsIn nodes l → IsIn nodes (complement_of l)
IsIn-complement_of nodes l h = rw (var_of-complement_of l) h

-- node 0 is true
pub value_in-true : (v : ℕ → Bool) (nodes : List Node) → IsGraph nodes → value_in v nodes 0 ≡ true
value_in-true v nodes graph = value_in-plain v nodes True 0 graph (record { inside = graph.some; plain = refl; is = graph.first })

pub value_in-truth_of : (v : ℕ → Bool) (nodes : List Node) (b : Bool) → IsGraph nodes → value_in v nodes (truth_of b) ≡ b
value_in-truth_of v nodes true graph = value_in-true v nodes graph
value_in-truth_of v nodes false graph = ap not (value_in-true v nodes graph)

pub IsIn-truth_of : (nodes : List Node) (b : Bool) → IsGraph nodes → IsIn nodes (truth_of b)
IsIn-truth_of nodes true graph = graph.some
IsIn-truth_of nodes false graph = graph.some

-- tables of two values
and-not : (x : Bool) → (x && not x) ≡ false
and-not true = refl
and-not false = refl

and-same : (x : Bool) → (x && x) ≡ x
and-same true = refl
and-same false = refl

or-not : (x y : Bool) → not (not x && not y) ≡ (x || y)
or-not true y = refl
or-not false true = refl
or-not false false = refl

-- a literal of the graph that has a value there
at_once : (nodes : List Node) (l : ℕ) (x : (ℕ → Bool) → Bool) → IsIn nodes l → ((v : ℕ → Bool) → value_in v nodes l ≡ x v) → Gives nodes nodes x l
at_once nodes l x inside value = record { grows = grows_not nodes; inside = inside; value = value }

-- what is known with no node
module _ (nodes : List Node) (a b l : ℕ) (graph : IsGraph nodes) (order : a ≤ b) (b_in : IsIn nodes b) where
  known_true : a ≡ 0 → b ≡ l → Gives nodes nodes (λ v. value_in v nodes a && value_in v nodes b) l
  known_true first is = at_once nodes l _ (rw is at b_in) (λ v. rw (first, value_in-true v nodes graph, is) refl)

  known_false : ((v : ℕ → Bool) → (value_in v nodes a && value_in v nodes b) ≡ false) → 1 ≡ l → Gives nodes nodes (λ v. value_in v nodes a && value_in v nodes b) l
  known_false never is = at_once nodes l _ (rw (← is) (IsIn-truth_of nodes false graph)) (λ v. rw (← is, never v) (value_in-truth_of v nodes false graph))

  known_same : a ≡ b → a ≡ l → Gives nodes nodes (λ v. value_in v nodes a && value_in v nodes b) l
  known_same same is = at_once nodes l _ (let inside : IsIn nodes a = omega arith in rw is at inside) (λ v. rw (← same, is) (sym (and-same (value_in v nodes l))))

  pub known_and_gives : known_and a b ≡ Some l → Gives nodes nodes (λ v. value_in v nodes a && value_in v nodes b) l
  known_and_gives e =
      elim (eqb_tells a 0) [
        | inl t ↦ known_true t.1 (let h = rw t.0 at e in cc)
        | inr f ↦ elim (eqb_tells a 1) [
          | inl t ↦ known_false (λ v. rw (t.1, value_in-truth_of v nodes false graph) refl) (let h = rw (f.0, t.0) at e in cc)
          | inr g ↦ elim (eqb_tells b (complement_of a)) [
            | inl t ↦ known_false (λ v. rw (t.1, value_in-complement_of v nodes a) (and-not (value_in v nodes a))) (let h = rw (f.0, g.0, t.0) at e in cc)
            | inr k ↦ elim (eqb_tells a b) [
              | inl t ↦ known_same t.1 (let h = rw (f.0, g.0, k.0, t.0) at e in cc)
              | inr n ↦ let h = rw (f.0, g.0, k.0, n.0) at e in cc
            ]
          ]
        ]
      ]

-- `|` by `&` and complements
pub or_gives : (old new : List Node) (a b neither : ℕ) → Gives old new (λ v. value_in v old (complement_of a) && value_in v old (complement_of b)) neither → Gives old new (λ v. value_in v old a || value_in v old b) (complement_of neither)
or_gives old new a b neither p = record {
  grows = p.grows;
  inside = IsIn-complement_of new neither p.inside;
  value = λ v.
      value_in-complement_of v new neither ∙ ap not (p.value v)
      ∙ rw (value_in-complement_of v old a, value_in-complement_of v old b) (or-not (value_in v old a) (value_in v old b));
}

-- a complement
pub not_gives : (nodes : List Node) (l : ℕ) → IsIn nodes l → Gives nodes nodes (λ v. not (value_in v nodes l)) (complement_of l)
not_gives nodes l h = at_once nodes (complement_of l) _ (IsIn-complement_of nodes l h) (λ v. value_in-complement_of v nodes l)
