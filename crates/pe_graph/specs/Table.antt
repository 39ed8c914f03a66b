-- Where nodes are looked up: each node is in a bucket, and of each bucket the nodes are linked, the newest first.
use Rattle.std.specs.Prelude.{◌≡◌, ℕ, zero, suc, ◌+◌, ◌*◌, ◌/◌, ◌%◌, ◌^◌, ◌<◌, ◌≤◌, ◌==◌, cond, List, length, slice_index}
use Rattle.pe_graph.specs.declared.graph.Node.{Node}
use Rattle.pe_graph.specs.declared.graph.Node.TheVariants.{True, Leaf, And}
use Rattle.pe_graph.specs.Nodes.{node_at}

-- two numbers of 64 bits as one of 32
unfoldable pub mixed_of : ℕ → ℕ → ℕ
mixed_of a b = ((a * 11400714819323198485) % 2 ^ 64 + (b * 14029467366897019727) % 2 ^ 64) % 2 ^ 64 / 2 ^ 32

-- the bucket of a node, among this many
unfoldable pub bucket_of : ℕ → Node → ℕ
bucket_of size True = 0
bucket_of size (Leaf k) = k % size
bucket_of size (And a b) = mixed_of a b % size

-- one more than the number of the newest of the first n nodes that is in the bucket b, or 0 where none is
abbrev pub newest : ℕ → List Node → ℕ → ℕ → ℕ
newest size nodes zero b = 0
newest size nodes (suc i) b = cond (bucket_of size (node_at nodes i) == b) (suc i) (newest size nodes i b)

-- of each bucket the newest of the first n nodes is known, and of each of these the one before it in its bucket
pub record IsLinked (nodes : List Node) (n : ℕ) (heads earlier : List ℕ) : Type 0 where
  pub some : 0 < length heads
  pub room : length nodes ≤ length earlier
  pub heads_are : (b : ℕ) → b < length heads → slice_index heads b ≡ newest (length heads) nodes n b
  pub earlier_are : (i : ℕ) → i < n → slice_index earlier i ≡ newest (length heads) nodes i (bucket_of (length heads) (node_at nodes i))
