-- The terminals of the grammar that the tokens of a library are.
use Rattle.std.specs.Prelude.{ℕ, suc, ◌==◌, Bool, false, ◌||◌, List, [], ◌∷◌, codes, slice_index, slice_range, if◌then◌else◌}
use Rattle.std.specs.Str.{bytes_eq}
use Rattle.pe_grammar.specs.declared.terminal.Token.{Token as Terminal}
use Rattle.pe_text.specs.declared.token.Kind.{Kind}
use Rattle.pe_text.specs.declared.token.Kind.TheVariants.{Text, Mark, End}
use Rattle.pe_text.specs.declared.token.Token.{Token}
use Rattle.pe_liberty_read.specs.declared.liberty_table.TheConstants.{LIBRARY, WORD, TEXT, VALUE, OPEN, CLOSE, BEGIN, END, COLON, SEMI, COMMA, LINE}

-- the mark that is this byte, one of ( ) { } : ; ,
abbrev pub mark_of : ℕ → ℕ
mark_of b =
    if b == 40 then OPEN
    else if b == 41 then CLOSE
    else if b == 123 then BEGIN
    else if b == 125 then END
    else if b == 58 then COLON
    else if b == 59 then SEMI
    else COMMA

-- a word in a list of values, and one elsewhere
abbrev pub word_of : Bool → List ℕ → ℕ
word_of in_values bytes = if in_values then VALUE else if bytes_eq bytes (codes "library") then LIBRARY else WORD

abbrev pub text_of : Bool → ℕ
text_of in_values = if in_values then VALUE else TEXT

-- the terminal of a token of these bytes
abbrev pub terminal_of : Bool → Kind → List ℕ → ℕ
terminal_of in_values Text bytes = text_of in_values
terminal_of in_values Mark bytes = mark_of (slice_index bytes 0)
terminal_of in_values End bytes = LINE
terminal_of in_values _ bytes = word_of in_values bytes

-- what stands behind this terminal stands in a list of values
abbrev pub goes_on_values : ℕ → Bool
goes_on_values k = (k == COLON) || (k == VALUE)

-- the bytes of a token
abbrev pub bytes_of : List ℕ → Token → List ℕ
bytes_of text t = slice_range text t.span.from t.span.to

-- the tokens as terminals, each with its number, the first being n
abbrev pub terminals_from : List ℕ → Bool → ℕ → List Token → List Terminal
terminals_from text in_values n [] = []
terminals_from text in_values n (t ∷ ts) =
    record { kind = terminal_of in_values t.kind (bytes_of text t); place = n }
    ∷ terminals_from text (goes_on_values (terminal_of in_values t.kind (bytes_of text t))) (suc n) ts

-- the tokens of a text as terminals
abbrev pub terminals_of : List ℕ → List Token → List Terminal
terminals_of text tokens = terminals_from text false 0 tokens
