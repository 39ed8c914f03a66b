-- Addition and comparison on literals.
use Rattle.std.specs.Prelude.{◌≡◌, ℕ, ◌+◌, Bool, true, false, not, List, length, map}
use Rattle.pe_base.specs.declared.value.Val.{Val}
use Rattle.pe_base.specs.Adder.{sum_bit, carry_bit}
use Rattle.pe_base.specs.Words.{is_one, one_if, number_of, number_bits, add_of, subtract_of}
use Rattle.pe_graph.specs.declared.graph.Node.{Node}
use Rattle.pe_graph.specs.Nodes.{IsIn, value_in, Grows}
use Rattle.pe_rail_ops.specs.declared.adder.Added.{Added}

-- the complement, if it is asked for
abbrev pub flipped : Bool → Bool → Bool
flipped true b = not b
flipped false b = b

-- the graph has grown, and literals of it have the sum and the carry of three
pub record GivesSum (old new : List Node) (x y c : ℕ) (added : Added) : Type 0 where
  pub grows : Grows old new
  pub sum_in : IsIn new added.sum
  pub carry_in : IsIn new added.carry
  pub sum : (v : ℕ → Bool) → value_in v new added.sum ≡ sum_bit (value_in v old x) (value_in v old y) (value_in v old c)
  pub carry : (v : ℕ → Bool) → value_in v new added.carry ≡ carry_bit (value_in v old x) (value_in v old y) (value_in v old c)

-- the lowest bits of a + b, or of a and the complement of b and 1
abbrev pub sums_of : Bool → List Val → List Val → List Val
sums_of subtract a b = number_bits (length a) (number_of (map is_one a) + number_of (map (flipped subtract) (map is_one b)) + one_if subtract)

-- a + b or a - b
abbrev pub total_of : Bool → List Val → List Val → List Val
total_of true = subtract_of
total_of false = add_of
