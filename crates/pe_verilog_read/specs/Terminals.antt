-- Which terminals of the grammar the tokens of a text are.
use Rattle.std.specs.Prelude.{ℕ, suc, ◌==◌, Bool, ◌||◌, List, [], ◌∷◌, codes, slice_range, if◌then◌else◌}
use Rattle.std.specs.List.{list_any}
use Rattle.std.specs.Str.{bytes_eq}
use Rattle.pe_grammar.specs.declared.terminal.Token.{Token as Terminal}
use Rattle.pe_text.specs.declared.token.Kind.{Kind}
use Rattle.pe_text.specs.declared.token.Kind.TheVariants.{Word, Escaped, Number, Text, Mark, End}
use Rattle.pe_text.specs.declared.token.Token.{Token}
use Rattle.pe_verilog_read.specs.declared.verilog_table.TheConstants as is

-- the words that are no names
abbrev pub words : List (List ℕ × ℕ)
words =
    (codes "module", is.MODULE) ∷ (codes "endmodule", is.ENDMODULE)
    ∷ (codes "parameter", is.PARAMETER) ∷ (codes "localparam", is.LOCALPARAM)
    ∷ (codes "wire", is.WIRE) ∷ (codes "reg", is.REG)
    ∷ (codes "input", is.INPUT) ∷ (codes "output", is.OUTPUT) ∷ (codes "inout", is.INOUT)
    ∷ (codes "assign", is.ASSIGN) ∷ (codes "always", is.ALWAYS)
    ∷ (codes "posedge", is.POSEDGE) ∷ (codes "negedge", is.NEGEDGE) ∷ (codes "or", is.OR)
    ∷ (codes "begin", is.BEGIN) ∷ (codes "end", is.END)
    ∷ (codes "if", is.IF) ∷ (codes "else", is.ELSE)
    ∷ (codes "case", is.CASE) ∷ (codes "casez", is.CASEZ) ∷ (codes "endcase", is.ENDCASE) ∷ (codes "default", is.DEFAULT)
    ∷ []

abbrev pub marks : List (List ℕ × ℕ)
marks =
    (codes "#", is.HASH) ∷ (codes "(", is.OPEN) ∷ (codes ")", is.CLOSE)
    ∷ (codes ",", is.COMMA) ∷ (codes ";", is.SEMI) ∷ (codes ".", is.DOT) ∷ (codes "=", is.EQUALS)
    ∷ (codes "[", is.LBRACKET) ∷ (codes "]", is.RBRACKET) ∷ (codes ":", is.COLON)
    ∷ (codes "@", is.AT) ∷ (codes "*", is.STAR)
    ∷ (codes "{", is.LBRACE) ∷ (codes "}", is.RBRACE) ∷ (codes "?", is.QUESTION)
    ∷ (codes "!", is.BANG) ∷ (codes "~", is.TILDE)
    ∷ (codes "&", is.AND) ∷ (codes "~&", is.NAND) ∷ (codes "|", is.BAR) ∷ (codes "~|", is.NOR)
    ∷ (codes "^", is.CARET) ∷ (codes "~^", is.XNOR) ∷ (codes "^~", is.XNOR)
    ∷ (codes "+", is.PLUS) ∷ (codes "-", is.MINUS) ∷ (codes "<<", is.LEFT) ∷ (codes ">>", is.RIGHT)
    ∷ (codes "<", is.LESS) ∷ (codes "<=", is.LESS_EQUAL) ∷ (codes ">", is.GREATER) ∷ (codes ">=", is.GREATER_EQUAL)
    ∷ (codes "==", is.EQUAL) ∷ (codes "!=", is.NOT_EQUAL) ∷ (codes "&&", is.AND_AND) ∷ (codes "||", is.BAR_BAR)
    ∷ []

-- the terminal of these bytes in a list, or another one
abbrev pub terminal_in : List (List ℕ × ℕ) → ℕ → List ℕ → ℕ
terminal_in [] other bytes = other
terminal_in (s ∷ more) other bytes = if bytes_eq s.0 bytes then s.1 else terminal_in more other bytes

-- z, Z and ?
abbrev pub is_skipped : ℕ → Bool
is_skipped b = (b == 122) || (b == 90) || (b == 63)

-- a token that is no part of the grammar is OTHER, which no rule has
abbrev pub terminal_of : Kind → List ℕ → ℕ
terminal_of Word bytes = terminal_in words is.NAME bytes
terminal_of Escaped bytes = is.NAME
terminal_of Number bytes = if list_any is_skipped bytes then is.WILD else is.NUMBER
terminal_of Text bytes = is.OTHER
terminal_of Mark bytes = terminal_in marks is.OTHER bytes
terminal_of End bytes = is.OTHER

-- the terminals of tokens, each with its number in the list, from n on
abbrev pub terminals_from : List ℕ → ℕ → List Token → List Terminal
terminals_from text n [] = []
terminals_from text n (t ∷ ts) =
    record { kind = terminal_of t.kind (slice_range text t.span.from t.span.to); place = n } ∷ terminals_from text (suc n) ts

abbrev pub terminals_of : List ℕ → List Token → List Terminal
terminals_of text tokens = terminals_from text 0 tokens
