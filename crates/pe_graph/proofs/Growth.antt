-- The values of nodes as a graph grows.
use Rattle.std.proofs.Common.{◌≡◌, ℕ, suc, ◌+◌, ◌<◌, ◌%◌, Bool, true, false, cond, not, List, [], ◌∷◌, ◌++◌, length, get_or, take, drop, refl, sym, ap, ◌∙◌, append_assoc, length-append, arith}
use Rattle.std.proofs.lemmas.List.{append-nil, length_push, get_or_push, get_or_append_left, length-take-le, take-append-drop, drop_more, get_or_at}
use Rattle.std.specs.Prelude.{fold}
use Rattle.pe_graph.specs.declared.graph.Node.{Node}
use Rattle.pe_graph.specs.declared.graph.Node.TheVariants.{True, Leaf, And}
use Rattle.pe_graph.specs.Literals.{var_of, is_negated, lit_of}
use Rattle.pe_graph.specs.Nodes.{lit_value, node_value, values, value_in, node_at, AreBelow, IsGraph, Grows, Gives, StandsFor}

-- the values of nodes that stand after those known
abbrev pub values_on : (ℕ → Bool) → List Bool → List Node → List Bool
values_on v known nodes = fold (λ known node. known ++ node_value v known node ∷ []) known nodes

-- they are added to those known
pub values_on-front : (v : ℕ → Bool) (known : List Bool) (nodes : List Node) → (rest : List Bool) × (values_on v known nodes ≡ known ++ rest) × (length rest ≡ length nodes)
values_on-front v known [] = ([], sym (append-nil known), refl)
values_on-front v known (n ∷ ns) =
    let x = node_value v known n in
    let f = values_on-front v (known ++ x ∷ []) ns in
    (x ∷ f.0, f.1 ∙ append_assoc known (x ∷ []) f.0, ap suc f.2)

pub values_on-append : (v : ℕ → Bool) (known : List Bool) (xs ys : List Node) → values_on v known (xs ++ ys) ≡ values_on v (values_on v known xs) ys
values_on-append v known [] ys = refl
values_on-append v known (x ∷ xs) ys = values_on-append v (known ++ node_value v known x ∷ []) xs ys

pub length-values : (v : ℕ → Bool) (nodes : List Node) → length (values v nodes) ≡ length nodes
length-values v nodes = let f = values_on-front v [] nodes in ap length f.1 ∙ f.2

-- a literal's value hangs on the front of the values alone
pub lit_value-append : (known more : List Bool) (l : ℕ) → var_of l < length known → lit_value (known ++ more) l ≡ lit_value known l
lit_value-append known more l h = ap (λ b. cond (is_negated l) (not b) b) (get_or_append_left known more false (var_of l) h)

pub grows_by : (nodes more : List Node) → Grows nodes (nodes ++ more)
grows_by nodes more = record {
  keeps = λ l h. omega (arith, length-append nodes more);
  same = λ v l h.
      let f = values_on-front v (values v nodes) more in
      ap (λ known. lit_value known l) (values_on-append v [] nodes more ∙ f.1)
      ∙ lit_value-append (values v nodes) f.0 l (omega (arith, length-values v nodes));
}

pub grows_not : (nodes : List Node) → Grows nodes nodes
grows_not nodes = record { keeps = λ l h. h; same = λ v l h. refl }

pub grows_on : (a b c : List Node) → Grows a b → Grows b c → Grows a c
grows_on a b c p q = record {
  keeps = λ l h. q.keeps l (p.keeps l h);
  same = λ v l h. q.same v l (p.keeps l h) ∙ p.same v l h;
}

-- a node's value hangs on the nodes that it names alone
node_value-append : (v : ℕ → Bool) (known more : List Bool) (node : Node) → AreBelow (length known) node → node_value v (known ++ more) node ≡ node_value v known node
node_value-append v known more True h = refl
node_value-append v known more (Leaf k) h = refl
node_value-append v known more (And a b) h = let x = lit_value-append known more a h.0 in let y = lit_value-append known more b h.1 in cc

-- a node among the others has the value of what it is
value_at : (v : ℕ → Bool) (front : List Node) (node : Node) (back : List Node) → AreBelow (length front) node → get_or (values v (front ++ node ∷ back)) (length front) false ≡ node_value v (values v (front ++ node ∷ back)) node
value_at v front node back h =
    let known = values v front in
    let n = length-values v front in
    let x = node_value v known node in
    let f = values_on-front v (known ++ x ∷ []) back in
    let e : values v (front ++ node ∷ back) ≡ known ++ x ∷ f.0 = values_on-append v [] front (node ∷ back) ∙ f.1 ∙ append_assoc known (x ∷ []) f.0 in
    rw e (get_or_at known x f.0 false (length front) n ∙ sym (node_value-append v known (x ∷ f.0) node (rw n h)))

-- the value of a literal that stands for a node
pub value_in-plain : (v : ℕ → Bool) (nodes : List Node) (node : Node) (l : ℕ) → IsGraph nodes → StandsFor nodes node l → value_in v nodes l ≡ node_value v (values v nodes) node
value_in-plain v nodes node l graph h =
    let i = var_of l in
    let lt : i < length nodes = h.inside in
    let n = length-take-le i nodes (omega arith) in
    let split : nodes ≡ take i nodes ++ node ∷ drop (i + 1) nodes = sym (take-append-drop i nodes) ∙ ap (λ xs. take i nodes ++ xs) (drop_more nodes i True lt ∙ ap (λ x. x ∷ drop (i + 1) nodes) h.is) in
    let below : AreBelow i node = rw h.is at (graph.later i lt) in
    let at_i = value_at v (take i nodes) node (drop (i + 1) nodes) (rw n below) in
    let here : get_or (values v nodes) i false ≡ node_value v (values v nodes) node = rw (n, ← split) at at_i in
    rw h.plain here

-- what the literal of a node is made of
pub var_of-lit_of : (var : ℕ) (negated : Bool) → var_of (lit_of var negated) ≡ var
var_of-lit_of var true = omega arith
var_of-lit_of var false = omega arith

pub is_negated-lit_of : (var : ℕ) (negated : Bool) → is_negated (lit_of var negated) ≡ negated
is_negated-lit_of var true = let odd : lit_of var true % 2 ≡ 1 = omega arith in rw odd refl
is_negated-lit_of var false = let even : lit_of var false % 2 ≡ 0 = omega arith in rw even refl

-- a node that is there has the value of what it is
pub found_gives : (nodes : List Node) (node : Node) (l : ℕ) → IsGraph nodes → StandsFor nodes node l → Gives nodes nodes (λ v. node_value v (values v nodes) node) l
found_gives nodes node l graph h = record {
  grows = grows_not nodes;
  inside = h.inside;
  value = λ v. value_in-plain v nodes node l graph h;
}

-- and so has one that is put behind the others
pub added_gives : (old new : List Node) (node : Node) (var l : ℕ) → new ≡ old ++ node ∷ [] → var ≡ length old → l ≡ lit_of var false → Gives old new (λ v. node_value v (values v old) node) l
added_gives old new node var l is at lit =
    let place : var_of l ≡ length old = ap var_of lit ∙ var_of-lit_of var false ∙ at in
    let plain : is_negated l ≡ false = ap is_negated lit ∙ is_negated-lit_of var false in
    rw is (record {
      grows = grows_by old (node ∷ []);
      inside = omega (arith, length_push old node);
      value = λ v.
          rw (values_on-append v [] old (node ∷ []), plain, place)
          (get_or_push (values v old) (node_value v (values v old) node) false (length old) (length-values v old));
    })

-- the literal of the node at a place stands for that node
pub stands_at : (nodes : List Node) (node : Node) (var l : ℕ) → var < length nodes → node_at nodes var ≡ node → l ≡ lit_of var false → StandsFor nodes node l
stands_at nodes node var l lt is lit =
    let place : var_of l ≡ var = ap var_of lit ∙ var_of-lit_of var false in
    record { inside = rw place lt; plain = ap is_negated lit ∙ is_negated-lit_of var false; is = rw place is }
