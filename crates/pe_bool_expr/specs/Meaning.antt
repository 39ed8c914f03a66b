-- The tree that a derivation is.
use Rattle.std.specs.Prelude.{ℕ, zero, suc, ◌/◌, ◌%◌, true, false, cond, ltb, List, [], ◌∷◌, length, take, drop, slice_index}
use Rattle.pe_grammar.specs.Derivation.{Derivation, leaf, pair, left, right, more}
use Rattle.pe_bool_expr.specs.declared.expr.Expr.{Expr}
use Rattle.pe_bool_expr.specs.declared.expr.Expr.TheVariants as tree
use Rattle.pe_bool_expr.specs.declared.style.Operator.{Operator}
use Rattle.pe_bool_expr.specs.declared.style.Operator.TheVariants.{And, Or, Xor}

-- two operands joined
abbrev pub joined : Operator → Expr → Expr → Expr
joined And e f = tree.And e f
joined Or e f = tree.Or e f
joined Xor e f = tree.Xor e f

-- the first of a list
abbrev pub first_of : List Expr → Expr
first_of [] = tree.Const false
first_of (e ∷ es) = e

-- one operand is itself, and more are the first half joined with the rest, each of them so again; in at most n steps
abbrev pub halved : Operator → ℕ → List Expr → Expr
halved op zero es = first_of es
halved op (suc n) es =
    cond (ltb (length es) 2) (first_of es)
    (joined op (halved op n (take (length es / 2) es)) (halved op n (drop (length es / 2) es)))

-- a balanced tree of the operands
unfoldable pub balanced : Operator → List Expr → Expr
balanced op es = halved op (length es) es

-- so many marks before it
abbrev pub negated : ℕ → Expr → Expr
negated zero e = e
negated (suc n) e = tree.Not (negated n e)

-- how many are repeated
abbrev pub count_of : Derivation → ℕ
count_of (more d e) = suc (count_of e)
count_of _ = zero

-- the pins are told by the places of the tokens
abbrev mutual
  -- a level of the operators, the weakest first; behind the strongest an operand with its marks
  pub level_of : List Operator → List ℕ → List Operator → Derivation → Expr
  level_of all pins (op ∷ ops) (pair first rest) = balanced op (level_of all pins ops first ∷ operands_of all pins ops rest)
  level_of all pins [] (pair marks d) = negated (count_of marks) (operand_of all pins d)
  level_of all pins ops _ = tree.Const false

  -- the operands behind the first
  pub operands_of : List Operator → List ℕ → List Operator → Derivation → List Expr
  operands_of all pins ops (more d e) = behind_operator all pins ops d ∷ operands_of all pins ops e
  operands_of all pins ops _ = []

  pub behind_operator : List Operator → List ℕ → List Operator → Derivation → Expr
  behind_operator all pins ops (pair operator d) = level_of all pins ops d
  behind_operator all pins ops _ = tree.Const false

  -- an operand: one with marks behind it, a name, 0, 1, and what stands in parentheses
  pub operand_of : List Operator → List ℕ → Derivation → Expr
  operand_of all pins (pair d marks) = negated (count_of marks % 2) (operand_of all pins d)
  operand_of all pins (left (leaf t)) = tree.Pin (slice_index pins t.place)
  operand_of all pins (right (right (left d))) = tree.Const true
  operand_of all pins (right (right (right (pair before (pair d behind))))) = level_of all pins all d
  operand_of all pins _ = tree.Const false

-- the operands of a level
abbrev pub operands_in : List Operator → List ℕ → List Operator → Derivation → List Expr
operands_in all pins ops (pair first rest) = level_of all pins ops first ∷ operands_of all pins ops rest
operands_in all pins ops _ = []
