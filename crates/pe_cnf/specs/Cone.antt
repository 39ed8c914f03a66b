-- The cone of a goal in a graph, and its clauses.
use Rattle.std.specs.Prelude.{◌≡◌, ℕ, zero, suc, ◌<◌, ◌==◌, ◌||◌, ◌⊎◌, ◌↔◌, Bool, true, false, cond, Some, List, [], ◌∷◌, ◌++◌, length, slice_index_or, IsTrue}
use Rattle.std.specs.List.{list_any}
use Rattle.pe_graph.specs.declared.graph.Node.{Node}
use Rattle.pe_graph.specs.declared.graph.Node.TheVariants.{True, Leaf, And}
use Rattle.pe_graph.specs.Literals.{var_of, is_negated, lit_of, complement_of}
use Rattle.pe_graph.specs.Nodes.{node_at, IsIn}
use Rattle.pe_graph.specs.Cone.{has_leaf}
use Rattle.pe_graph.specs.declared.job.Goal.{Goal}
use Rattle.pe_cnf.specs.declared.equality.Equality.{Equality}
use Rattle.pe_cnf.specs.ClauseSet.{ClauseSet, and_clauses, leaf_var}

-- the node `top` is x, or reaches a gate that names x
pub data Reaches (nodes : List Node) (top : ℕ) : ℕ → Type 0 where
  here : Reaches nodes top top
  left : (x p q : ℕ) → Reaches nodes top x → node_at nodes x ≡ And p q → Reaches nodes top (var_of p)
  right : (x p q : ℕ) → Reaches nodes top x → node_at nodes x ≡ And p q → Reaches nodes top (var_of q)

-- the node is in the cone of the goal: its context or one of its sides reaches it
abbrev pub InCone : List Node → Goal → ℕ → Type 0
InCone nodes goal x = Reaches nodes (var_of goal.ctx) x ⊎ (Reaches nodes (var_of goal.a) x ⊎ Reaches nodes (var_of goal.b) x)

-- one of the cited equalities has a side of this node
abbrev pub cites : List Equality → ℕ → Bool
cites cited x = list_any (λ e. (x == var_of e.a) || (x == var_of e.b)) cited

-- the node has a variable: node 0, the nodes of the cone, and those of cited sides
abbrev pub is_used : (ℕ → Bool) → List Equality → ℕ → Bool
is_used cone cited x = (x == 0) || (cone x || cites cited x)

-- how many of the used nodes stand before a node
abbrev pub used_before : (ℕ → Bool) → ℕ → ℕ
used_before used zero = 0
used_before used (suc x) = cond (used x) (suc (used_before used x)) (used_before used x)

-- the literal of a node's variable, with the same sign
abbrev pub literal_of : (ℕ → ℕ) → ℕ → ℕ
literal_of variable l = lit_of (variable (var_of l)) (is_negated l)

-- the clauses of a node: a gate has three, others none
abbrev pub node_clauses : (ℕ → ℕ) → ℕ → Node → List (List ℕ)
node_clauses variable x True = []
node_clauses variable x (Leaf k) = []
node_clauses variable x (And p q) = and_clauses (lit_of (variable x) false) (literal_of variable p) (literal_of variable q)

-- the clauses of those of the first n nodes that are in the cone, in node order
abbrev pub gate_clauses : (ℕ → Bool) → (ℕ → ℕ) → List Node → ℕ → List (List ℕ)
gate_clauses cone variable nodes zero = []
gate_clauses cone variable nodes (suc x) = gate_clauses cone variable nodes x ++ cond (cone x) (node_clauses variable x (node_at nodes x)) []

-- the constant's unit clause, and those of the gates
abbrev pub front_clauses : (ℕ → Bool) → (ℕ → ℕ) → List Node → List (List ℕ)
front_clauses cone variable nodes = (0 ∷ []) ∷ gate_clauses cone variable nodes (length nodes)

-- the context is 1, and the sides differ
abbrev pub goal_clauses : (ℕ → ℕ) → Goal → List (List ℕ)
goal_clauses variable goal =
    (literal_of variable goal.ctx ∷ []) ∷
    (literal_of variable goal.a ∷ literal_of variable goal.b ∷ []) ∷
    (complement_of (literal_of variable goal.a) ∷ complement_of (literal_of variable goal.b) ∷ []) ∷ []

-- the sides of each cited equality are equal
abbrev pub cited_clauses : (ℕ → ℕ) → List Equality → List (List ℕ)
cited_clauses variable [] = []
cited_clauses variable (e ∷ cited) =
    (complement_of (literal_of variable e.a) ∷ literal_of variable e.b ∷ []) ∷
    (literal_of variable e.a ∷ complement_of (literal_of variable e.b) ∷ []) ∷
    cited_clauses variable cited

-- the number of the i-th leaf
abbrev pub leaf_number : List (ℕ × ℕ) → ℕ → ℕ
leaf_number leaves i = (slice_index_or leaves i (0, 0)).0

-- the leaves of the cone by rising number, each with its variable
pub record AreLeaves (cone : ℕ → Bool) (variable : ℕ → ℕ) (nodes : List Node) (leaves : List (ℕ × ℕ)) : Type 0 where
  pub rise : (i j : ℕ) → i < j → j < length leaves → leaf_number leaves i < leaf_number leaves j
  pub each : (i : ℕ) → i < length leaves → (x : ℕ) × (cone x ≡ true) × (node_at nodes x ≡ Leaf (leaf_number leaves i)) × (leaf_var leaves i ≡ variable x)
  pub all : (x k : ℕ) → cone x ≡ true → node_at nodes x ≡ Leaf k → (i : ℕ) × (i < length leaves) × (leaf_number leaves i ≡ k)

-- the clauses of a cone: the constant's unit clause, three for each gate in node order, that the context is 1 and the
-- sides differ, and two for each cited equality in order. A test tells which nodes are in the cone; the variable of a
-- used node is how many used nodes stand before it
pub record IsConeBy (cone : ℕ → Bool) (variable : ℕ → ℕ) (nodes : List Node) (goal : Goal) (width : ℕ) (cited : List Equality) (set : ClauseSet) : Type 0 where
  pub cone_is : (x : ℕ) → (cone x ≡ true) ↔ InCone nodes goal x
  pub variable_is : (x : ℕ) → x < length nodes → variable x ≡ used_before (is_used cone cited) x
  pub clauses_are : set.clauses ≡ front_clauses cone variable nodes ++ goal_clauses variable goal ++ cited_clauses variable cited
  pub vars_are : set.vars ≡ used_before (is_used cone cited) (length nodes)
  pub leaves_are : AreLeaves cone variable nodes set.leaves
  pub width_is : set.width ≡ width
  pub goal_is : set.goal ≡ Some goal
  pub gates_are : set.gates ≡ length (front_clauses cone variable nodes)

abbrev pub IsConeOf : List Node → Goal → ℕ → List Equality → ClauseSet → Type 0
IsConeOf nodes goal width cited set = (cone : ℕ → Bool) × ((variable : ℕ → ℕ) × IsConeBy cone variable nodes goal width cited set)

-- the goal's literals are of the graph
pub record HasGoal (nodes : List Node) (goal : Goal) : Type 0 where
  pub ctx : IsIn nodes goal.ctx
  pub a : IsIn nodes goal.a
  pub b : IsIn nodes goal.b

-- and so are the sides of the cited equalities
abbrev pub HasCited : List Node → List Equality → Type 0
HasCited nodes cited = (x : ℕ) → cites cited x ≡ true → x < length nodes

-- the graph's leaves have numbers below the width
abbrev pub HasLeaves : List Node → ℕ → Type 0
HasLeaves nodes width = (x k : ℕ) → node_at nodes x ≡ Leaf k → k < width

-- the graph has the leaves of the numbers below the count, and no other
abbrev pub HasJust : List Node → ℕ → Type 0
HasJust nodes count = (k : ℕ) → IsTrue (has_leaf nodes k) ↔ (k < count)
