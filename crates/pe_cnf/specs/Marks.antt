-- Tables over the nodes of a graph.
use Rattle.std.specs.Prelude.{◌≡◌, ℕ, ◌+◌, ◌<◌, ◌≤◌, ◌==◌, ◌||◌, Bool, true, false, List, length, slice_index, slice_index_or}
use Rattle.pe_graph.specs.declared.graph.Node.{Node}
use Rattle.pe_graph.specs.declared.graph.Node.TheVariants.{True, Leaf, And}
use Rattle.pe_graph.specs.Literals.{var_of}
use Rattle.pe_graph.specs.Nodes.{node_at}
use Rattle.pe_cnf.specs.Cone.{Reaches, used_before, leaf_number}
use Rattle.pe_cnf.specs.ClauseSet.{leaf_var}

-- the node is marked
abbrev pub mark_of : List Bool → ℕ → Bool
mark_of marks x = slice_index_or marks x false

-- the entry of a node
abbrev pub entry_of : List ℕ → ℕ → ℕ
entry_of table x = slice_index table x

-- the node is a gate that names y
abbrev pub names : Node → ℕ → Bool
names True y = false
names (Leaf k) y = false
names (And p q) y = (y == var_of p) || (y == var_of q)

-- marks have spread: each new one is reached by an old one, and gates from number i on have marked inputs where they
-- are marked
pub record Spreads (nodes : List Node) (i : ℕ) (old new : ℕ → Bool) : Type 0 where
  pub kept : (y : ℕ) → old y ≡ true → new y ≡ true
  pub reached : (y : ℕ) → new y ≡ true → (z : ℕ) × (old z ≡ true) × Reaches nodes z y
  pub closed : (y p q : ℕ) → i ≤ y → new y ≡ true → node_at nodes y ≡ And p q → (new (var_of p) ≡ true) × (new (var_of q) ≡ true)

-- the entries are the numbers of used nodes before each, up to the last
pub record AreNumbers (used : ℕ → Bool) (n : ℕ) (numbers : List ℕ) : Type 0 where
  pub count : length numbers ≡ n + 1
  pub each : (x : ℕ) → x ≤ n → entry_of numbers x ≡ used_before used x

-- the entry of each leaf's number is one more than its variable, for those of the first n nodes that are in the cone
pub record IsLeafTable (cone : ℕ → Bool) (variable : ℕ → ℕ) (nodes : List Node) (n : ℕ) (table : List ℕ) : Type 0 where
  pub found : (k : ℕ) → 0 < entry_of table k → (x : ℕ) × (cone x ≡ true) × (node_at nodes x ≡ Leaf k) × (entry_of table k ≡ variable x + 1)
  pub all : (x k : ℕ) → x < n → cone x ≡ true → node_at nodes x ≡ Leaf k → 0 < entry_of table k

-- the list of the first n entries that are not 0, by rising number
pub record IsListOf (table : List ℕ) (n : ℕ) (leaves : List (ℕ × ℕ)) : Type 0 where
  pub rise : (i j : ℕ) → i < j → j < length leaves → leaf_number leaves i < leaf_number leaves j
  pub each : (i : ℕ) → i < length leaves → (leaf_number leaves i < n) × (entry_of table (leaf_number leaves i) ≡ leaf_var leaves i + 1)
  pub all : (k : ℕ) → k < n → 0 < entry_of table k → (i : ℕ) × (i < length leaves) × (leaf_number leaves i ≡ k)
