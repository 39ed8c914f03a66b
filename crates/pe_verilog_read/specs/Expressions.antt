-- The expressions that derivations are. Each of the three copies of the rules has derivations of the same shapes.
use Rattle.std.specs.Prelude.{ℕ, zero, suc, List, [], ◌∷◌, Option, Some, None}
use Rattle.pe_grammar.specs.Derivation.{Derivation, leaf, pair, left, right, more}
use Rattle.pe_verilog_ast.specs.declared.expression.Ex.{Ex}
use Rattle.pe_verilog_ast.specs.declared.expression.Ex.TheVariants.{Number, Net, Join, Repeat, Unary, Chain, Choose}
use Rattle.pe_verilog_ast.specs.declared.expression.Operand.{Operand}
use Rattle.pe_verilog_ast.specs.declared.expression.Select.{Select}
use Rattle.pe_verilog_ast.specs.declared.expression.Select.TheVariants.{Whole, Bit, Part}
use Rattle.pe_verilog_ast.specs.declared.operator.BinOp.TheVariants.{Add}
use Rattle.pe_verilog_read.specs.Leaves.{token_of, name_of, sign_of, operator_of}
use Rattle.pe_verilog_read.specs.Numbers.{digits_of}

-- what stands for a derivation that is none of an expression
abbrev pub no_ex : Ex
no_ex = Join []

abbrev pub no_operand : Operand
no_operand = record { op = Add; value = no_ex }

-- one operand is itself, and more are a chain
abbrev pub chained : Ex → List Operand → Ex
chained e [] = e
chained e (o ∷ os) = Chain e (o ∷ os)

-- how many levels of operators between two operands there are
abbrev pub levels : ℕ
levels = 9

abbrev pub number_of : (ℕ → List ℕ) → Derivation → Ex
number_of w d = Number (digits_of (name_of w d))

-- a bit, or a part where a second bound stands
abbrev pub selected : Ex → Option Ex → Select
selected e None = Bit e
selected e (Some f) = Part e f

-- the words of tokens are told by their numbers
abbrev mutual
  pub ex_of : (ℕ → List ℕ) → Derivation → Ex
  ex_of w (pair d (left (pair question sides))) = Choose (level_of w levels d) (left_of w sides) (right_of w sides)
  ex_of w (pair d (right rest)) = level_of w levels d
  ex_of w _ = no_ex

  -- two expressions with a colon between them
  pub left_of : (ℕ → List ℕ) → Derivation → Ex
  left_of w (pair d rest) = ex_of w d
  left_of w _ = no_ex

  pub right_of : (ℕ → List ℕ) → Derivation → Ex
  right_of w (pair d (pair colon e)) = ex_of w e
  right_of w _ = no_ex

  -- an expression of so many levels of operators between two operands, and of none with operators before an operand
  pub level_of : (ℕ → List ℕ) → ℕ → Derivation → Ex
  level_of w (suc n) (pair first rest) = chained (level_of w n first) (operands_of w n rest)
  level_of w zero (left (pair sign d)) = Unary (sign_of (token_of sign).kind) (level_of w zero d)
  level_of w zero (right d) = primary_of w d
  level_of w n _ = no_ex

  pub operands_of : (ℕ → List ℕ) → ℕ → Derivation → List Operand
  operands_of w n (more d e) = operand_of w n d ∷ operands_of w n e
  operands_of w n _ = []

  pub operand_of : (ℕ → List ℕ) → ℕ → Derivation → Operand
  operand_of w n (pair operator d) = record { op = operator_of (token_of operator).kind; value = level_of w n d }
  operand_of w n _ = no_operand

  -- what stands in parentheses or braces, a number, or a name with or without an index
  pub primary_of : (ℕ → List ℕ) → Derivation → Ex
  primary_of w (left d) = group_of w d
  primary_of w (right (left d)) = braces_of w d
  primary_of w (right (right d)) = simple_of w d
  primary_of w _ = no_ex

  pub group_of : (ℕ → List ℕ) → Derivation → Ex
  group_of w (pair before (pair d behind)) = ex_of w d
  group_of w _ = no_ex

  pub braces_of : (ℕ → List ℕ) → Derivation → Ex
  braces_of w (pair before (pair d (pair (left others) behind))) = Join (ex_of w d ∷ others_of w others)
  braces_of w (pair before (pair d (pair (right inner) behind))) = Repeat (ex_of w d) (inner_of w inner)
  braces_of w _ = no_ex

  pub inner_of : (ℕ → List ℕ) → Derivation → List Ex
  inner_of w (pair before (pair d behind)) = list_of w d
  inner_of w _ = []

  pub list_of : (ℕ → List ℕ) → Derivation → List Ex
  list_of w (pair first others) = ex_of w first ∷ others_of w others
  list_of w _ = []

  pub others_of : (ℕ → List ℕ) → Derivation → List Ex
  others_of w (more d e) = behind_of w d ∷ others_of w e
  others_of w _ = []

  pub behind_of : (ℕ → List ℕ) → Derivation → Ex
  behind_of w (pair comma d) = ex_of w d
  behind_of w _ = no_ex

  -- a number, or a name with or without an index
  pub simple_of : (ℕ → List ℕ) → Derivation → Ex
  simple_of w (leaf t) = number_of w (leaf t)
  simple_of w (left d) = number_of w d
  simple_of w (right d) = named_of w d
  simple_of w _ = no_ex

  pub named_of : (ℕ → List ℕ) → Derivation → Ex
  named_of w (pair name selection) = Net (name_of w name) (selection_of w selection)
  named_of w _ = no_ex

  pub selection_of : (ℕ → List ℕ) → Derivation → Select
  selection_of w (left d) = select_of w d
  selection_of w _ = Whole

  pub select_of : (ℕ → List ℕ) → Derivation → Select
  select_of w (pair before (pair d (pair upto behind))) = selected (ex_of w d) (upto_of w upto)
  select_of w _ = Whole

  pub upto_of : (ℕ → List ℕ) → Derivation → Option Ex
  upto_of w (left (pair colon d)) = Some (ex_of w d)
  upto_of w _ = None
