-- Expressions of whole nets by ~, & and | (IEEE 1364).
use Rattle.std.specs.Prelude.{ℕ, Bool, true, false, cond, ◌&&◌, List, [], ◌∷◌}
use Rattle.pe_base.specs.declared.value.Val.{Val}
use Rattle.pe_base.specs.declared.value.Val.TheVariants.{Corrupt}
use Rattle.pe_base.specs.Names.{has_name}
use Rattle.pe_base.specs.Operators.{not_of, and_of, or_of}
use Rattle.pe_verilog_ast.specs.declared.operator.BinOp.{BinOp}
use Rattle.pe_verilog_ast.specs.declared.operator.BinOp.TheVariants as op
use Rattle.pe_verilog_ast.specs.declared.operator.UnOp.{UnOp}
use Rattle.pe_verilog_ast.specs.declared.operator.UnOp.TheVariants as un
use Rattle.pe_verilog_ast.specs.declared.expression.Ex.{Ex, Ex-F, fold-Ex}
use Rattle.pe_verilog_ast.specs.declared.expression.Ex.TheOpen as layer
use Rattle.pe_verilog_ast.specs.declared.expression.Operand.{Operand, Operand-F, fold-Operand}
use Rattle.pe_verilog_ast.specs.declared.expression.Select.{Select, Select-F, fold-Select}

-- what an expression is: a net, operators on such, or another form
pub data Logic : Type 0 where
  net : List ℕ → Logic
  inverse : Logic → Logic
  both : Logic → Logic → Logic
  either : Logic → Logic → Logic
  other : Logic

-- an operator and its right operand
pub record Step : Type 0 where
  pub op : BinOp
  pub value : Logic

-- the whole net is meant
abbrev pub whole_layer : Select-F Logic Bool Step → Bool
whole_layer layer.Whole = true
whole_layer (layer.Bit index) = false
whole_layer (layer.Part left right) = false

abbrev pub selected : List ℕ → Bool → Logic
selected name whole = cond whole (net name) other

abbrev pub applied : UnOp → Logic → Logic
applied un.Not x = inverse x
applied un.And x = other
applied un.Nand x = other
applied un.Or x = other
applied un.Nor x = other
applied un.Xor x = other
applied un.Xnor x = other
applied un.LogicNot x = other

abbrev pub joined : BinOp → Logic → Logic → Logic
joined op.And x y = both x y
joined op.Or x y = either x y
joined op.Add x y = other
joined op.Sub x y = other
joined op.ShiftLeft x y = other
joined op.ShiftRight x y = other
joined op.Less x y = other
joined op.LessEqual x y = other
joined op.Greater x y = other
joined op.GreaterEqual x y = other
joined op.Equal x y = other
joined op.NotEqual x y = other
joined op.Xor x y = other
joined op.Xnor x y = other
joined op.LogicAnd x y = other
joined op.LogicOr x y = other

-- operands of one level are grouped to the left
abbrev pub chained : Logic → List Step → Logic
chained x [] = x
chained x (s ∷ steps) = chained (joined s.op x s.value) steps

abbrev pub layer_of : Ex-F Logic Bool Step → Logic
layer_of (layer.Number ds) = other
layer_of (layer.Net name whole) = selected name whole
layer_of (layer.Join xs) = other
layer_of (layer.Repeat count xs) = other
layer_of (layer.Unary op x) = applied op x
layer_of (layer.Chain x steps) = chained x steps
layer_of (layer.Choose c x y) = other

abbrev pub step_layer : Operand-F Logic Bool Step → Step
step_layer s = record { op = s.op; value = s.value }

unfoldable pub logic_of : Ex → Logic
logic_of e = fold-Ex Logic Bool Step layer_of whole_layer step_layer e

unfoldable pub step_of : Operand → Step
step_of s = fold-Operand Logic Bool Step layer_of whole_layer step_layer s

unfoldable pub is_whole : Select → Bool
is_whole s = fold-Select Logic Bool Step layer_of whole_layer step_layer s

-- it is of known nets and these operators alone
abbrev pub is_read : List (List ℕ) → Logic → Bool
is_read known (net name) = has_name known name
is_read known (inverse x) = is_read known x
is_read known (both x y) = is_read known x && is_read known y
is_read known (either x y) = is_read known x && is_read known y
is_read known other = false

-- the same of right operands
abbrev pub is_join : BinOp → Bool
is_join op.And = true
is_join op.Or = true
is_join _ = false

abbrev pub are_read : List (List ℕ) → List Step → Bool
are_read known [] = true
are_read known (s ∷ steps) = (is_join s.op && is_read known s.value) && are_read known steps

-- its value, where the nets have these values
abbrev pub value_of : (List ℕ → Val) → Logic → Val
value_of value (net name) = value name
value_of value (inverse x) = not_of (value_of value x)
value_of value (both x y) = and_of (value_of value x) (value_of value y)
value_of value (either x y) = or_of (value_of value x) (value_of value y)
value_of value other = Corrupt

-- the value that an operator gives
abbrev pub joined_value : BinOp → Val → Val → Val
joined_value op.And a b = and_of a b
joined_value op.Or a b = or_of a b
joined_value _ a b = Corrupt

-- the value of operands that are grouped to the left
abbrev pub chained_value : (List ℕ → Val) → Val → List Step → Val
chained_value value a [] = a
chained_value value a (s ∷ steps) = chained_value value (joined_value s.op a (value_of value s.value)) steps
