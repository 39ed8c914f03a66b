-- The sizes that operators give and ask for, and what a node of theirs weighs.
use Rattle.std.specs.Prelude.{ℕ, ◌*◌, max}
use Rattle.pe_verilog_ast.specs.declared.operator.BinOp.{BinOp}
use Rattle.pe_verilog_ast.specs.declared.operator.BinOp.TheVariants as op
use Rattle.pe_verilog_ast.specs.declared.family.Family.{Family}
use Rattle.pe_verilog_ast.specs.declared.family.Family.TheVariants.{Sum, Bitwise, Shift, Order, Equality, Logic}

abbrev pub family_of : BinOp → Family
family_of op.Add = Sum
family_of op.Sub = Sum
family_of op.ShiftLeft = Shift
family_of op.ShiftRight = Shift
family_of op.Less = Order
family_of op.LessEqual = Order
family_of op.Greater = Order
family_of op.GreaterEqual = Order
family_of op.Equal = Equality
family_of op.NotEqual = Equality
family_of op.And = Bitwise
family_of op.Xor = Bitwise
family_of op.Xnor = Bitwise
family_of op.Or = Bitwise
family_of op.LogicAnd = Logic
family_of op.LogicOr = Logic

-- the size of a result that stands alone, from the operands' own sizes
abbrev pub alone_size : Family → ℕ → ℕ → ℕ
alone_size Sum a b = max a b
alone_size Bitwise a b = max a b
alone_size Shift a b = a
alone_size Order a b = 1
alone_size Equality a b = 1
alone_size Logic a b = 1

-- the size of the left operand, in a context of w bits
abbrev pub left_size : Family → ℕ → ℕ → ℕ → ℕ
left_size Sum w a b = w
left_size Bitwise w a b = w
left_size Shift w a b = w
left_size Order w a b = max a b
left_size Equality w a b = max a b
left_size Logic w a b = a

-- the size of the right operand, in a context of w bits
abbrev pub right_size : Family → ℕ → ℕ → ℕ → ℕ
right_size Sum w a b = w
right_size Bitwise w a b = w
right_size Shift w a b = b
right_size Order w a b = max a b
right_size Equality w a b = max a b
right_size Logic w a b = b

-- what the operator itself weighs in a context of w bits: sums and orders eight times their operands' size, shifts twelve
-- times that of what they shift, the others their own size
abbrev pub node_weight : Family → ℕ → ℕ → ℕ → ℕ
node_weight Sum w a b = 8 * w
node_weight Bitwise w a b = w
node_weight Shift w a b = 12 * w
node_weight Order w a b = 8 * max a b
node_weight Equality w a b = 1
node_weight Logic w a b = 1
