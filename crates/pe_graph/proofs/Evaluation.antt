-- Values that are computed one after the other.
use Rattle.std.proofs.Common.{◌≡◌, ℕ, ◌+◌, ◌<◌, Bool, false, cond, not, List, length, get_or, refl, sym, ap, ◌∙◌, arith, below_more, get_or-set_other, get_or-set_same}
use Rattle.std.proofs.Math.ListN.{set}
use Rattle.pe_graph.specs.declared.graph.Node.{Node}
use Rattle.pe_graph.specs.declared.graph.Node.TheVariants.{True, Leaf, And}
use Rattle.pe_graph.specs.Literals.{var_of, is_negated, lit_of}
use Rattle.pe_graph.specs.Nodes.{lit_value, node_value, values, node_at, AreBelow, IsGraph}
use Rattle.pe_graph.proofs.Growth.{value_in-plain, stands_at, var_of-lit_of, is_negated-lit_of}

-- the same values of the first n nodes
abbrev pub AgreeBelow : ℕ → List Bool → List Bool → Type 0
AgreeBelow n known other = (k : ℕ) → k < n → get_or known k false ≡ get_or other k false

pub lit_agrees : (n : ℕ) (known other : List Bool) (l : ℕ) → AgreeBelow n known other → var_of l < n → lit_value known l ≡ lit_value other l
lit_agrees n known other l h lt = ap (λ b. cond (is_negated l) (not b) b) (h (var_of l) lt)

node_agrees : (v : ℕ → Bool) (n : ℕ) (known other : List Bool) (node : Node) → AgreeBelow n known other → AreBelow n node → node_value v known node ≡ node_value v other node
node_agrees v n known other True h below = refl
node_agrees v n known other (Leaf k) h below = refl
node_agrees v n known other (And a b) h below = let x = lit_agrees n known other a h below.0 in let y = lit_agrees n known other b h below.1 in cc

-- the value of one more node
pub agrees_more : (v : ℕ → Bool) (nodes : List Node) (known : List Bool) (var : ℕ) (node : Node) → IsGraph nodes → var < length nodes → var < length known → node ≡ node_at nodes var → AgreeBelow var known (values v nodes) → AgreeBelow (var + 1) (set known var (node_value v known node)) (values v nodes)
agrees_more v nodes known var node graph lt room is h =
    let x = node_value v known node in
    let here : node_value v known node ≡ get_or (values v nodes) var false =
    node_agrees v var known (values v nodes) node h (rw is (graph.later var lt))
    ∙ sym (value_in-plain v nodes node (lit_of var false) graph (stands_at nodes node var (lit_of var false) lt (sym is) refl))
    ∙ rw (is_negated-lit_of var false, var_of-lit_of var false) refl in
    below_more _ var
    (λ k below. rw (get_or-set_other known var k x false (omega arith)) (h k below))
    (rw (get_or-set_same known var x false room) here)
