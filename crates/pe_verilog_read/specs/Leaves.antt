-- Terminals in derivations: their tokens and words, and the operators that they are.
use Rattle.std.specs.Prelude.{ℕ, ◌==◌, List, if◌then◌else◌}
use Rattle.pe_grammar.specs.declared.terminal.Token.{Token}
use Rattle.pe_grammar.specs.Derivation.{Derivation, leaf, left, right}
use Rattle.pe_verilog_ast.specs.declared.operator.UnOp.{UnOp}
use Rattle.pe_verilog_ast.specs.declared.operator.UnOp.TheVariants as unary
use Rattle.pe_verilog_ast.specs.declared.operator.BinOp.{BinOp}
use Rattle.pe_verilog_ast.specs.declared.operator.BinOp.TheVariants as binary
use Rattle.pe_verilog_read.specs.declared.verilog_table.TheConstants as is

-- the token of a terminal, which may be one of several
abbrev pub token_of : Derivation → Token
token_of (leaf t) = t
token_of (left d) = token_of d
token_of (right d) = token_of d
token_of _ = record { kind = 0; place = 0 }

-- its word, given the words of tokens by their numbers
abbrev pub name_of : (ℕ → List ℕ) → Derivation → List ℕ
name_of w d = w (token_of d).place

-- the operator before an operand
abbrev pub sign_of : ℕ → UnOp
sign_of k =
    if k == is.BANG then unary.LogicNot
    else if k == is.TILDE then unary.Not
    else if k == is.AND then unary.And
    else if k == is.NAND then unary.Nand
    else if k == is.BAR then unary.Or
    else if k == is.NOR then unary.Nor
    else if k == is.CARET then unary.Xor
    else unary.Xnor

-- the operator between two operands
abbrev pub operator_of : ℕ → BinOp
operator_of k =
    if k == is.PLUS then binary.Add
    else if k == is.MINUS then binary.Sub
    else if k == is.LEFT then binary.ShiftLeft
    else if k == is.RIGHT then binary.ShiftRight
    else if k == is.LESS then binary.Less
    else if k == is.LESS_EQUAL then binary.LessEqual
    else if k == is.GREATER then binary.Greater
    else if k == is.GREATER_EQUAL then binary.GreaterEqual
    else if k == is.EQUAL then binary.Equal
    else if k == is.NOT_EQUAL then binary.NotEqual
    else if k == is.AND then binary.And
    else if k == is.CARET then binary.Xor
    else if k == is.XNOR then binary.Xnor
    else if k == is.BAR then binary.Or
    else if k == is.AND_AND then binary.LogicAnd
    else binary.LogicOr
