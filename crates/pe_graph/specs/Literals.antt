-- Literals as numbers: twice the number of a node, and one more where it is complemented.
use Rattle.std.specs.Prelude.{ℕ, ◌+◌, ◌-◌, ◌*◌, ◌/◌, ◌%◌, ◌==◌, Bool, cond}

-- the number of the node
abbrev pub var_of : ℕ → ℕ
var_of l = l / 2

-- the node is complemented
abbrev pub is_negated : ℕ → Bool
is_negated l = l % 2 == 1

-- the literal of a node
abbrev pub lit_of : ℕ → Bool → ℕ
lit_of var negated = 2 * var + cond negated 1 0

-- the complement of a literal
abbrev pub complement_of : ℕ → ℕ
complement_of l = cond (is_negated l) (l - 1) (l + 1)

-- a constant: node 0 is the constant true
abbrev pub truth_of : Bool → ℕ
truth_of value = cond value 0 1
