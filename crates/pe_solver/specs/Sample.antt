-- Samples: values of a job's leaves under which the context is 1 and the sides of the goal differ.
use Rattle.std.specs.Prelude.{◌≡◌, ◌≢◌, ℕ, ◌+◌, ◌<◌, Bool, true, false, List, length, take, slice_index, slice_index_or}
use Rattle.pe_graph.specs.declared.graph.Node.{Node}
use Rattle.pe_graph.specs.declared.job.Goal.{Goal}
use Rattle.pe_graph.specs.Nodes.{value_in, IsGraph}
use Rattle.pe_cnf.specs.declared.equality.Equality.{Equality}
use Rattle.pe_cnf.specs.Clause.{Satisfies}
use Rattle.pe_cnf.specs.ClauseSet.{ClauseSet, leaf_var}
use Rattle.pe_cnf.specs.Cone.{IsConeOf, HasGoal, HasCited, leaf_number}
use Rattle.pe_refute.specs.Table.{leaf_bit}
use Rattle.pe_refute.specs.Faults.{IsFirstBreak}

-- the value of a leaf, 0 where there is none
abbrev pub value_of : List Bool → ℕ → Bool
value_of values k = slice_index_or values k false

-- the bits tell which of the leaves' literals are known
pub record AreKnownBits (known : ℕ → Bool) (leaves : List ℕ) (bits : List Bool) : Type 0 where
  pub count : length bits ≡ length leaves
  pub each : (i : ℕ) → i < length leaves → value_of bits i ≡ known (slice_index leaves i)

-- values of the cone's leaves under which the clauses of the gates can be true, the context 1 and the sides different
abbrev pub AreBreaking : ClauseSet → List Bool → Type 0
AreBreaking set bits =
    (length bits ≡ length set.leaves) ×
    ((w : ℕ → Bool) × ((i : ℕ) → i < length set.leaves → w (leaf_var set.leaves i) ≡ value_of bits i) × Satisfies w (take (set.gates + 3) set.clauses))

-- the values of the cone's leaves at their places among all leaves, and 0 at the others
pub record IsSpread (set : ClauseSet) (bits values : List Bool) : Type 0 where
  pub count : length values ≡ set.width
  pub inside : (i : ℕ) → i < length set.leaves → value_of values (leaf_number set.leaves i) ≡ value_of bits i
  pub outside : (k : ℕ) → ((i : ℕ) → i < length set.leaves → leaf_number set.leaves i ≢ k) → value_of values k ≡ false

-- the leaves' numbers rise, and are below the width
pub record AreNumbered (set : ClauseSet) : Type 0 where
  pub rise : (i j : ℕ) → i < j → j < length set.leaves → leaf_number set.leaves i < leaf_number set.leaves j
  pub below : (i : ℕ) → i < length set.leaves → leaf_number set.leaves i < set.width

-- the bits of the leaves in the assignment of this number
pub record AreBitsOf (step count : ℕ) (bits : List Bool) : Type 0 where
  pub count_is : length bits ≡ count
  pub each : (i : ℕ) → i < count → value_of bits i ≡ leaf_bit step count i

-- under these values the context of each goal whose cone it is is 1, and the sides differ
abbrev pub Differs : ClauseSet → List Bool → Type 0
Differs set values =
    (nodes : List Node) (goal : Goal) (width : ℕ) (cited : List Equality) →
    IsGraph nodes → HasGoal nodes goal → HasCited nodes cited → IsConeOf nodes goal width cited set →
    (value_in (value_of values) nodes goal.ctx ≡ true) × (value_in (value_of values) nodes goal.a ≢ value_in (value_of values) nodes goal.b)

-- a sample: one value per leaf of the job, 0 outside the cone
pub record IsSample (set : ClauseSet) (values : List Bool) : Type 0 where
  pub count : length values ≡ set.width
  pub outside : (k : ℕ) → ((i : ℕ) → i < length set.leaves → leaf_number set.leaves i ≢ k) → value_of values k ≡ false
  pub differs : Differs set values

-- the first sample: no assignment of the cone's leaves with a smaller number breaks the question
abbrev pub IsFirstSample : ClauseSet → List Bool → Type 0
IsFirstSample set values =
    (step : ℕ) × IsFirstBreak set step ×
    ((i : ℕ) → i < length set.leaves → value_of values (leaf_number set.leaves i) ≡ leaf_bit step (length set.leaves) i)
