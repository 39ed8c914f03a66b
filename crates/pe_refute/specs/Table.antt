-- Tables over the leaves of a cone.
use Rattle.std.specs.Prelude.{◌≡◌, ℕ, zero, suc, ◌+◌, ◌-◌, ◌/◌, ◌%◌, ◌<◌, ◌≤◌, ◌==◌, Bool, IsTrue, is_some, List, length, take}
use Rattle.pe_cnf.specs.Clause.{Satisfies}
use Rattle.pe_cnf.specs.ClauseSet.{ClauseSet, leaf_var}

-- there is a goal, with at most 12 leaves, and no assignment makes the clauses of the gates true, the context 1 and the
-- sides different
pub record IsTable (set : ClauseSet) : Type 0 where
  pub goal_is : IsTrue (is_some set.goal)
  pub few : length set.leaves ≤ 12
  pub none : (w : ℕ → Bool) → Satisfies w (take (set.gates + 3) set.clauses) → ⊥

-- a number halved i times
abbrev pub halved : ℕ → ℕ → ℕ
halved k zero = k
halved k (suc i) = halved (k / 2) i

-- the value of the i-th of n leaves in the k-th assignment: of the first leaf it is the highest bit
abbrev pub leaf_bit : ℕ → ℕ → ℕ → Bool
leaf_bit k n i = halved k (n - 1 - i) % 2 == 1

-- the leaves have the values of the k-th assignment
abbrev pub Assigns : List (ℕ × ℕ) → ℕ → (ℕ → Bool) → Type 0
Assigns leaves k w = (i : ℕ) → i < length leaves → w (leaf_var leaves i) ≡ leaf_bit k (length leaves) i
