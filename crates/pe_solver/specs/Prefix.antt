-- The values of the first leaves, as literals, and what becomes of them.
use Rattle.std.specs.Prelude.{◌≡◌, ◌≢◌, ℕ, ◌+◌, ◌⊎◌, ◌^◌, ◌<◌, ◌≤◌, false, List, length, map, slice_index}
use Rattle.pe_graph.specs.Literals.{var_of, is_negated, lit_of, complement_of}
use Rattle.pe_cnf.specs.Clause.{clause_at}
use Rattle.pe_cnf.specs.ClauseSet.{ClauseSet, leaf_var}
use Rattle.pe_refute.specs.Chain.{EndsEmpty}
use Rattle.pe_refute.specs.Follow.{Follows}
use Rattle.pe_refute.specs.declared.evidence.Derived.{Derived}
use Rattle.pe_solver.specs.Lean.{IsPart}
use Rattle.pe_solver.specs.Derivation.{NoneEmpty}
use Rattle.pe_solver.specs.Sample.{AreBreaking}
use Rattle.pe_solver.specs.declared.prefixes.Closed.{Closed}
use Rattle.pe_solver.specs.declared.prefixes.Closed.TheVariants.{By, Sample, Spent, Done}
use Rattle.pe_solver.specs.declared.prefixes.Side.{Side}
use Rattle.pe_solver.specs.declared.prefixes.Side.TheVariants.{Id, Spent as Full, Done as Over}

-- the own literals of different variables below the limit
pub record AreLeaves (vars : ℕ) (leaves : List ℕ) : Type 0 where
  pub plain : (i : ℕ) → i < length leaves → is_negated (slice_index leaves i) ≡ false
  pub below : (i : ℕ) → i < length leaves → var_of (slice_index leaves i) < vars
  pub apart : (i j : ℕ) → i < j → j < length leaves → slice_index leaves i ≢ slice_index leaves j

-- the literals are those of a cone's leaves
pub record AreNamed (leaves : List (ℕ × ℕ)) (literals : List ℕ) : Type 0 where
  pub count : length literals ≡ length leaves
  pub each : (i : ℕ) → i < length leaves → slice_index literals i ≡ lit_of (leaf_var leaves i) false

-- a literal for each of the first leaves
pub record IsPrefix (leaves prefix : List ℕ) : Type 0 where
  pub count : length prefix ≤ length leaves
  pub of_leaf : (i : ℕ) → i < length prefix →
      (slice_index prefix i ≡ slice_index leaves i) ⊎ (slice_index prefix i ≡ complement_of (slice_index leaves i))

-- the literals of the clause that denies the prefix
abbrev pub denials : List ℕ → List ℕ
denials prefix = map complement_of prefix

-- what was kept: fewer than 2 ^ m clauses, no more than the budget, and none of them empty
pub record HasKept (was now : List Derived) (m budget : ℕ) : Type 0 where
  pub count : length now + 1 ≤ length was + 2 ^ m
  pub within : length was ≤ budget → length now ≤ budget
  pub none_empty : NoneEmpty was → NoneEmpty now

-- a prefix before m more leaves is closed: by a clause that denies it, by a sample, by the budget's end, or by the
-- empty clause
abbrev pub IsClosed : ClauseSet → List (List ℕ) → List Derived → List Derived → ℕ → List ℕ → ℕ → Closed → Type 0
IsClosed set all was now m prefix budget (By f) =
    HasKept was now m budget × Follows all f.clause.items f.hints.items × IsPart f.clause.items (denials prefix)
IsClosed set all was now m prefix budget (Sample bits) = HasKept was now m budget × AreBreaking set bits.items
IsClosed set all was now m prefix budget Spent = HasKept was now m budget × (budget ≤ length now)
IsClosed set all was now m prefix budget Done = (length now + 1 ≤ length was + 2 ^ m) × EndsEmpty now × (length was ≤ budget → length now ≤ budget)

-- the clause of a prefix's 0 side has a number, or there is no room for it, or it is empty
abbrev pub IsSide : List (List ℕ) → List Derived → List Derived → List ℕ → ℕ → Side → Type 0
IsSide all was now clause budget (Id id) =
    (length now ≤ length was + 1) × (NoneEmpty was → NoneEmpty now) × (id < length all) × IsPart (clause_at all id) clause × (length now ≤ budget)
IsSide all was now clause budget Full = (now ≡ was) × (budget ≤ length was)
IsSide all was now clause budget Over = (length now ≡ length was + 1) × EndsEmpty now × (length now ≤ budget)
