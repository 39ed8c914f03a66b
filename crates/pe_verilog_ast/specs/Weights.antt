-- The size of an expression and its weight in a context.
use Rattle.std.specs.Prelude.{ℕ, ◌+◌, ◌-◌, ◌*◌, ◌^◌, max, min, Bool, true, false, cond, List, [], ◌∷◌, length}
use Rattle.std.specs.Str.{bytes_eq}
use Rattle.pe_verilog_ast.specs.declared.number.Digit.{Digit}
use Rattle.pe_verilog_ast.specs.declared.number.Digit.TheVariants as digit
use Rattle.pe_verilog_ast.specs.declared.operator.BinOp.{BinOp}
use Rattle.pe_verilog_ast.specs.declared.operator.UnOp.{UnOp}
use Rattle.pe_verilog_ast.specs.declared.operator.UnOp.TheVariants as un
use Rattle.pe_verilog_ast.specs.declared.expression.Ex.{Ex, Ex-F, fold-Ex}
use Rattle.pe_verilog_ast.specs.declared.expression.Ex.TheOpen as layer
use Rattle.pe_verilog_ast.specs.declared.expression.Operand.{Operand, Operand-F, fold-Operand}
use Rattle.pe_verilog_ast.specs.declared.expression.Select.{Select, Select-F, fold-Select}
use Rattle.pe_verilog_ast.specs.declared.family.Family.{Family}
use Rattle.pe_verilog_ast.specs.Sizes.{family_of, alone_size, left_size, right_size, node_weight}

-- the greatest number of 64 bits stands for all above it
abbrev pub capped : ℕ → ℕ
capped n = min n (2 ^ 64 - 1)

-- what is asked of an expression: its size where it stands alone, whether it is a number and which, and its weight in a
-- context of so many bits
pub record Sized : Type 0 where
  pub own : ℕ
  pub is_number : Bool
  pub value : ℕ
  pub weight : ℕ → ℕ

abbrev pub alone_weight : Sized → ℕ
alone_weight x = x.weight x.own

-- an expression that is no number
abbrev pub sized_as : ℕ → (ℕ → ℕ) → Sized
sized_as own weight = record { own = own; is_number = false; value = 0; weight = weight }

-- an operator and its right operand
pub record Step : Type 0 where
  pub op : BinOp
  pub value : Sized

-- which bits of a net are meant
pub data Bits : Type 0 where
  whole : Bits
  bit : Sized → Bits
  part : Sized → Sized → Bits

abbrev pub bit_of : Digit → ℕ
bit_of digit.One = 1
bit_of digit.Zero = 0
bit_of digit.X = 0
bit_of digit.Skip = 0

abbrev pub number_of : List Digit → ℕ
number_of [] = 0
number_of (d ∷ ds) = bit_of d + 2 * number_of ds

-- a number counts the size of its context
abbrev pub number : List Digit → Sized
number ds = record { own = length ds; is_number = true; value = number_of ds; weight = λ w. w }

-- the size of a net: of the first entry with its name
abbrev pub net_size : List (List ℕ × ℕ) → List ℕ → ℕ
net_size [] name = 0
net_size (net ∷ nets) name = cond (bytes_eq net.0 name) net.1 (net_size nets name)

-- the bits from one index to another, whichever is the greater
abbrev pub part_size : ℕ → ℕ → ℕ
part_size left right = (left - right) + (right - left) + 1

-- a net and a constant select count the size of their context; a variable select counts twelve times the size of its net,
-- and its index, which stands alone
abbrev pub selected : ℕ → Bits → Sized
selected size whole = sized_as size (λ w. w)
selected size (bit index) = sized_as 1 (λ w. cond index.is_number w (12 * size + alone_weight index))
selected size (part left right) = sized_as (part_size (capped left.value) (capped right.value)) (λ w. w)

abbrev pub total_size : List Sized → ℕ
total_size [] = 0
total_size (x ∷ xs) = x.own + total_size xs

-- the weight of parts, each of which stands alone
abbrev pub total_weight : List Sized → ℕ
total_weight [] = 0
total_weight (x ∷ xs) = alone_weight x + total_weight xs

abbrev pub joined : List Sized → Sized
joined xs = sized_as (total_size xs) (λ w. w + total_weight xs)

-- its parts are nodes of the expression once, however often they are repeated: what is repeated is in its own size
abbrev pub repeated : Sized → List Sized → Sized
repeated count xs = sized_as (count.value * total_size xs) (λ w. w + total_weight xs)

-- one bit from all bits of an operand that stands alone
abbrev pub reduced : Sized → Sized
reduced x = sized_as 1 (λ w. 1 + alone_weight x)

abbrev pub complemented : Sized → Sized
complemented x = sized_as x.own (λ w. w + x.weight w)

abbrev pub applied : UnOp → Sized → Sized
applied un.Not x = complemented x
applied un.And x = reduced x
applied un.Nand x = reduced x
applied un.Or x = reduced x
applied un.Nor x = reduced x
applied un.Xor x = reduced x
applied un.Xnor x = reduced x
applied un.LogicNot x = reduced x

abbrev pub combined : Family → Sized → Sized → Sized
combined f x y =
    sized_as (alone_size f x.own y.own)
    (λ w. node_weight f w x.own y.own + x.weight (left_size f w x.own y.own) + y.weight (right_size f w x.own y.own))

-- operands of one level are grouped to the left
abbrev pub chained : Sized → List Step → Sized
chained x [] = x
chained x (s ∷ steps) = chained (combined (family_of s.op) x s.value) steps

-- a chain is no number
abbrev pub grouped : Sized → List Step → Sized
grouped x steps = sized_as (chained x steps).own (chained x steps).weight

-- the condition stands alone
abbrev pub chosen : Sized → Sized → Sized → Sized
chosen c x y = sized_as (max x.own y.own) (λ w. w + alone_weight c + x.weight w + y.weight w)

abbrev pub layer_of : List (List ℕ × ℕ) → Ex-F Sized Bits Step → Sized
layer_of nets (layer.Number ds) = number ds
layer_of nets (layer.Net name bits) = selected (net_size nets name) bits
layer_of nets (layer.Join xs) = joined xs
layer_of nets (layer.Repeat count xs) = repeated count xs
layer_of nets (layer.Unary op x) = applied op x
layer_of nets (layer.Chain x steps) = grouped x steps
layer_of nets (layer.Choose c x y) = chosen c x y

abbrev pub step_layer : Operand-F Sized Bits Step → Step
step_layer s = record { op = s.op; value = s.value }

abbrev pub bits_layer : Select-F Sized Bits Step → Bits
bits_layer layer.Whole = whole
bits_layer (layer.Bit index) = bit index
bits_layer (layer.Part left right) = part left right

-- an expression of nets of these sizes
unfoldable pub sized : List (List ℕ × ℕ) → Ex → Sized
sized nets e = fold-Ex Sized Bits Step (layer_of nets) bits_layer step_layer e

unfoldable pub step : List (List ℕ × ℕ) → Operand → Step
step nets s = fold-Operand Sized Bits Step (layer_of nets) bits_layer step_layer s

unfoldable pub bits : List (List ℕ × ℕ) → Select → Bits
bits nets s = fold-Select Sized Bits Step (layer_of nets) bits_layer step_layer s

-- the size of an expression that stands alone
abbrev pub own_size : List (List ℕ × ℕ) → Ex → ℕ
own_size nets e = (sized nets e).own

-- the weight in a context: an expression has the larger size of its own and its context's
abbrev pub weight_in : List (List ℕ × ℕ) → ℕ → Ex → ℕ
weight_in nets w e = (sized nets e).weight (max w (sized nets e).own)
