-- Clauses that begin with those of gates.
use Rattle.std.specs.Prelude.{◌≡◌, ◌≢◌, ℕ, zero, suc, ◌+◌, ◌*◌, ◌/◌, ◌<◌, ◌≤◌, ◌==◌, ◌||◌, Bool, true, false, List, [], ◌∷◌, length, slice_index}
use Rattle.std.specs.List.{list_any}
use Rattle.pe_graph.specs.Literals.{var_of, is_negated, complement_of}
use Rattle.pe_cnf.specs.Clause.{clause_at}
use Rattle.pe_cnf.specs.ClauseSet.{ClauseSet, leaf_var}

-- the number of the first clause of a gate: the clauses of the gates stand behind the constant's
abbrev pub gate_start : ℕ → ℕ
gate_start g = 1 + 3 * g

-- the output and the inputs of a gate, as its clauses name them
abbrev pub output_of : List (List ℕ) → ℕ → ℕ
output_of clauses g = slice_index (clause_at clauses (gate_start g + 2)) 0

abbrev pub left_of : List (List ℕ) → ℕ → ℕ
left_of clauses g = slice_index (clause_at clauses (gate_start g)) 1

abbrev pub right_of : List (List ℕ) → ℕ → ℕ
right_of clauses g = slice_index (clause_at clauses (gate_start g + 1)) 1

-- the variable is the output of one of the first n gates
abbrev pub is_output : List (List ℕ) → ℕ → ℕ → Bool
is_output clauses zero y = false
is_output clauses (suc g) y = (y == var_of (output_of clauses g)) || is_output clauses g y

-- the variable is a leaf's
abbrev pub is_leaf : List (ℕ × ℕ) → ℕ → Bool
is_leaf leaves y = list_any (λ (leaf : ℕ × ℕ). y == leaf.1) leaves

-- the variable is the constant's, a leaf's, or the output of one of the first n gates
abbrev pub has_value : List (ℕ × ℕ) → List (List ℕ) → ℕ → ℕ → Bool
has_value leaves clauses n y = (y == 0) || (is_leaf leaves y || is_output clauses n y)

-- a gate has the three clauses of its output and its inputs; each input has a value before it and is of a smaller
-- variable, and the output has none before it
pub record IsGate (leaves : List (ℕ × ℕ)) (clauses : List (List ℕ)) (g : ℕ) : Type 0 where
  pub first : clause_at clauses (gate_start g) ≡ complement_of (output_of clauses g) ∷ left_of clauses g ∷ []
  pub second : clause_at clauses (gate_start g + 1) ≡ complement_of (output_of clauses g) ∷ right_of clauses g ∷ []
  pub third : clause_at clauses (gate_start g + 2) ≡ output_of clauses g ∷ complement_of (left_of clauses g) ∷ complement_of (right_of clauses g) ∷ []
  pub plain : is_negated (output_of clauses g) ≡ false
  pub left_smaller : var_of (left_of clauses g) < var_of (output_of clauses g)
  pub right_smaller : var_of (right_of clauses g) < var_of (output_of clauses g)
  pub left_known : has_value leaves clauses g (var_of (left_of clauses g)) ≡ true
  pub right_known : has_value leaves clauses g (var_of (right_of clauses g)) ≡ true
  pub fresh : has_value leaves clauses g (var_of (output_of clauses g)) ≡ false

-- the first clauses are the constant's, whose variable is 0, and those of n gates
pub record AreGates (leaves : List (ℕ × ℕ)) (clauses : List (List ℕ)) (n : ℕ) : Type 0 where
  pub room : gate_start n ≤ length clauses
  pub constant : clause_at clauses 0 ≡ 0 ∷ []
  pub each : (g : ℕ) → g < n → IsGate leaves clauses g

-- the leaves have variables of their own
pub record AreApart (leaves : List (ℕ × ℕ)) : Type 0 where
  pub above : (i : ℕ) → i < length leaves → 0 < leaf_var leaves i
  pub apart : (i j : ℕ) → i < j → j < length leaves → leaf_var leaves i ≢ leaf_var leaves j

-- how many gates there are
abbrev pub gate_count : ClauseSet → ℕ
gate_count set = set.gates / 3

-- the literals of the context and of the two sides, as their clauses name them
abbrev pub ctx_of : ClauseSet → ℕ
ctx_of set = slice_index (clause_at set.clauses set.gates) 0

abbrev pub a_of : ClauseSet → ℕ
a_of set = slice_index (clause_at set.clauses (set.gates + 1)) 0

abbrev pub b_of : ClauseSet → ℕ
b_of set = slice_index (clause_at set.clauses (set.gates + 1)) 1

-- the variable has a value once the leaves have theirs
abbrev pub is_known : ClauseSet → ℕ → Bool
is_known set y = has_value set.leaves set.clauses (gate_count set) y

-- gates, then the unit clause of the context, then two clauses that say that the sides differ
pub record IsGated (set : ClauseSet) : Type 0 where
  pub gates_are : AreGates set.leaves set.clauses (gate_count set)
  pub count : set.gates ≡ gate_start (gate_count set)
  pub room : set.gates + 3 ≤ length set.clauses
  pub leaves_are : AreApart set.leaves
  pub ctx : clause_at set.clauses set.gates ≡ ctx_of set ∷ []
  pub differ : clause_at set.clauses (set.gates + 1) ≡ a_of set ∷ b_of set ∷ []
  pub differ_not : clause_at set.clauses (set.gates + 2) ≡ complement_of (a_of set) ∷ complement_of (b_of set) ∷ []
  pub ctx_known : is_known set (var_of (ctx_of set)) ≡ true
  pub a_known : is_known set (var_of (a_of set)) ≡ true
  pub b_known : is_known set (var_of (b_of set)) ≡ true
