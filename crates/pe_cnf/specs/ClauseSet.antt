-- A set of clauses, and what it tells of the cone that it was made from.
use Rattle.std.specs.Prelude.{ℕ, ◌+◌, ◌*◌, Option, List, [], ◌∷◌, slice_index_or}
use Rattle.pe_graph.specs.Literals.{complement_of}
use Rattle.pe_graph.specs.declared.job.Goal.{Goal}

-- the clauses by their numbers, and a number above each variable; of a cone the numbers of its leaves, each with its
-- variable, how many leaves the job has, the goal, and how many clauses stand before the unit clause of its context
pub record ClauseSet : Type 0 where
  pub clauses : List (List ℕ)
  pub vars : ℕ
  pub leaves : List (ℕ × ℕ)
  pub width : ℕ
  pub goal : Option Goal
  pub gates : ℕ

-- the three clauses of a gate x = p & q
abbrev pub and_clauses : ℕ → ℕ → ℕ → List (List ℕ)
and_clauses x p q =
    (complement_of x ∷ p ∷ []) ∷
    (complement_of x ∷ q ∷ []) ∷
    (x ∷ complement_of p ∷ complement_of q ∷ []) ∷ []

-- the number of the first clause of a gate: the clauses of the gates stand behind the constant's
abbrev pub gate_start : ℕ → ℕ
gate_start g = 1 + 3 * g

-- the variable of the i-th leaf
abbrev pub leaf_var : List (ℕ × ℕ) → ℕ → ℕ
leaf_var leaves i = (slice_index_or leaves i (0, 0)).1
