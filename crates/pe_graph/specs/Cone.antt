-- What a goal needs of a graph.
use Rattle.std.specs.Prelude.{◌≡◌, ◌≢◌, ◌⊎◌, ℕ, ◌≤◌, ◌==◌, Bool, true, false, ◌&&◌, ◌||◌, List, length, All, AllPairs}
use Rattle.std.specs.List.{list_any}
use Rattle.pe_graph.specs.declared.graph.Node.{Node}
use Rattle.pe_graph.specs.declared.graph.Node.TheVariants.{True, Leaf, And}
use Rattle.pe_graph.specs.declared.job.Goal.{Goal}
use Rattle.pe_graph.specs.Literals.{var_of, truth_of}
use Rattle.pe_graph.specs.Nodes.{node_at, IsIn}

-- x is the node of this number, or below an input of it
pub data Reaches (nodes : List Node) : ℕ → ℕ → Type 0 where
  here : (x : ℕ) → Reaches nodes x x
  first : (var a b x : ℕ) → node_at nodes var ≡ And a b → Reaches nodes (var_of a) x → Reaches nodes var x
  second : (var a b x : ℕ) → node_at nodes var ≡ And a b → Reaches nodes (var_of b) x → Reaches nodes var x

-- the literals of a goal are of the graph
pub record IsGoalIn (nodes : List Node) (g : Goal) : Type 0 where
  pub ctx : IsIn nodes g.ctx
  pub a : IsIn nodes g.a
  pub b : IsIn nodes g.b

-- b is true, or a is true and b is false
abbrev pub has_form : Goal → Bool
has_form g = g.b == truth_of true || (g.a == truth_of true && g.b == truth_of false)

-- the leaf of this number is below a literal of the goal
abbrev pub IsConeLeaf : List Node → Goal → ℕ → Type 0
IsConeLeaf nodes g k = (x : ℕ) × (node_at nodes x ≡ Leaf k) × (Reaches nodes (var_of g.ctx) x ⊎ (Reaches nodes (var_of g.a) x ⊎ Reaches nodes (var_of g.b) x))

-- at most so many leaves are
abbrev pub HasSmallCone : List Node → Goal → Type 0
HasSmallCone nodes g = (leaves : List ℕ) → AllPairs (λ k l. k ≢ l) leaves → All (IsConeLeaf nodes g) leaves → length leaves ≤ g.leaves

abbrev pub is_leaf : ℕ → Node → Bool
is_leaf k True = false
is_leaf k (Leaf l) = l == k
is_leaf k (And a b) = false

-- the graph has the leaf of this number
abbrev pub has_leaf : List Node → ℕ → Bool
has_leaf nodes k = list_any (is_leaf k) nodes
