-- What forces the variables of gates.
use Rattle.std.specs.Prelude.{◌≡◌, ◌≢◌, ℕ, ◌+◌, ◌<◌, ◌||◌, Bool, true, false, List, length, take}
use Rattle.pe_graph.specs.Literals.{var_of, lit_of, complement_of}
use Rattle.pe_cnf.specs.Clause.{has, clause_at, Satisfies}
use Rattle.pe_cnf.specs.ClauseSet.{ClauseSet, leaf_var}
use Rattle.pe_cnf.specs.Cone.{leaf_number}
use Rattle.pe_cnf.specs.Gates.{gate_start, has_value, output_of, left_of, right_of}

-- the leaves of a cone have the values that an assignment of the job's leaves gives them
abbrev pub AgreeAtLeaves : (ℕ → Bool) → (ℕ → Bool) → List (ℕ × ℕ) → Type 0
AgreeAtLeaves w v leaves = (i : ℕ) → i < length leaves → w (leaf_var leaves i) ≡ v (leaf_number leaves i)

-- two assignments give the variables of the leaves the same values
abbrev pub AreSameAtLeaves : (ℕ → Bool) → (ℕ → Bool) → List (ℕ × ℕ) → Type 0
AreSameAtLeaves w u leaves = (i : ℕ) → i < length leaves → w (leaf_var leaves i) ≡ u (leaf_var leaves i)

-- the leaves' values force those of the constant and of the first n gates: assignments that make the clauses of these
-- true and are the same at the leaves are the same there
abbrev pub AreForced : ClauseSet → ℕ → Type 0
AreForced set n =
    (w u : ℕ → Bool) → AreSameAtLeaves w u set.leaves →
    Satisfies w (take (gate_start n) set.clauses) → Satisfies u (take (gate_start n) set.clauses) →
    (y : ℕ) → has_value set.leaves set.clauses n y ≡ true → w y ≡ u y

-- of the literals that are known to be true, one is of this variable
abbrev pub is_set : (ℕ → Bool) → ℕ → Bool
is_set known y = known (lit_of y false) || known (lit_of y true)

-- the clause has the literal, and each other one of it is known to be false
pub record Forces (known : ℕ → Bool) (clause : List ℕ) (l : ℕ) : Type 0 where
  pub inside : has clause l ≡ true
  pub others : (m : ℕ) → has clause m ≡ true → m ≢ l → known (complement_of m) ≡ true

-- where both inputs of a gate have values, one of its clauses forces a literal of its output
abbrev pub IsForcing : ClauseSet → ℕ → Type 0
IsForcing set g =
    (known : ℕ → Bool) →
    is_set known (var_of (left_of set.clauses g)) ≡ true → is_set known (var_of (right_of set.clauses g)) ≡ true →
    (i l : ℕ) × (i < 3) × (var_of l ≡ var_of (output_of set.clauses g)) × Forces known (clause_at set.clauses (gate_start g + i)) l
