-- And-inverter graphs as lists of nodes, and the values of nodes under an assignment of the leaves, which gives each
-- leaf's value by its number.
use Rattle.std.specs.Prelude.{◌≡◌, ◌≢◌, ℕ, ◌<◌, ◌^◌, ◌==◌, min, max, Bool, true, false, cond, not, ◌&&◌, ◌||◌, Option, Some, None, MatchOption, List, [], ◌∷◌, ◌++◌, length, fold, slice_index_or}
use Rattle.pe_graph.specs.declared.graph.Node.{Node}
use Rattle.pe_graph.specs.declared.graph.Node.TheVariants.{True, Leaf, And}
use Rattle.pe_graph.specs.Literals.{var_of, is_negated, complement_of, truth_of}

-- the value of a literal, given those of the nodes
abbrev pub lit_value : List Bool → ℕ → Bool
lit_value known l = cond (is_negated l) (not (slice_index_or known (var_of l) false)) (slice_index_or known (var_of l) false)

-- the value of a node, given those of the nodes before it
abbrev pub node_value : (ℕ → Bool) → List Bool → Node → Bool
node_value v known True = true
node_value v known (Leaf k) = v k
node_value v known (And a b) = lit_value known a && lit_value known b

-- the values of all nodes, from the first on
abbrev pub values : (ℕ → Bool) → List Node → List Bool
values v nodes = fold (λ known node. known ++ node_value v known node ∷ []) [] nodes

-- the value of a literal under an assignment of the leaves
abbrev pub value_in : (ℕ → Bool) → List Node → ℕ → Bool
value_in v nodes l = lit_value (values v nodes) l

-- the literal belongs to the graph
abbrev pub IsIn : List Node → ℕ → Type 0
IsIn nodes l = var_of l < length nodes

-- the node of a number
abbrev pub node_at : List Node → ℕ → Node
node_at nodes i = slice_index_or nodes i True

-- the nodes that a node names have numbers below n
abbrev pub AreBelow : ℕ → Node → Type 0
AreBelow n True = Unit {0}
AreBelow n (Leaf k) = Unit {0}
AreBelow n (And a b) = (var_of a < n) × (var_of b < n)

-- node 0 is the constant true; no two nodes are equal; each stands after those that it names; a number of 64 bits has
-- room for a literal of each
pub record IsGraph (nodes : List Node) : Type 0 where
  pub some : 0 < length nodes
  pub first : node_at nodes 0 ≡ True
  pub apart : (i j : ℕ) → i < j → j < length nodes → node_at nodes i ≢ node_at nodes j
  pub later : (i : ℕ) → i < length nodes → AreBelow i (node_at nodes i)
  pub few : length nodes < 2 ^ 62

-- the graph has grown: its literals are still in it, and keep their values under every assignment
pub record Grows (old new : List Node) : Type 0 where
  pub keeps : (l : ℕ) → IsIn old l → IsIn new l
  pub same : (v : ℕ → Bool) (l : ℕ) → IsIn old l → value_in v new l ≡ value_in v old l

-- the graph has grown, and a literal of it has the value x under every assignment
pub record Gives (old new : List Node) (x : (ℕ → Bool) → Bool) (l : ℕ) : Type 0 where
  pub grows : Grows old new
  pub inside : IsIn new l
  pub value : (v : ℕ → Bool) → value_in v new l ≡ x v

-- a literal stands for a node: it is that node's own, not its complement
pub record StandsFor (nodes : List Node) (node : Node) (l : ℕ) : Type 0 where
  pub inside : IsIn nodes l
  pub plain : is_negated l ≡ false
  pub is : node_at nodes (var_of l) ≡ node

-- a & b where it is known with no node, for a that is not above b: true & b is b; false & b, and a & ~a, are false;
-- a & a is a
abbrev pub known_and : ℕ → ℕ → Option ℕ
known_and a b = cond (a == truth_of true) (Some b) (cond (a == truth_of false || b == complement_of a) (Some (truth_of false)) (cond (a == b) (Some a) None))

-- a literal is the graph's for a & b: the one that is known, or the one of the node
abbrev pub IsOrderedAnd : List Node → ℕ → ℕ → ℕ → Type 0
IsOrderedAnd nodes a b l = MatchOption (known_and a b) (StandsFor nodes (And a b) l) (λ known. l ≡ known)

-- the same, in either order of a and b
abbrev pub IsAnd : List Node → ℕ → ℕ → ℕ → Type 0
IsAnd nodes a b l = IsOrderedAnd nodes (min a b) (max a b) l
