-- The terminals of the grammar that the tokens of a map file are.
use Rattle.std.specs.Prelude.{ℕ, suc, ◌==◌, Bool, true, List, [], ◌∷◌, codes, slice_range, if◌then◌else◌}
use Rattle.std.specs.Str.{bytes_eq}
use Rattle.pe_grammar.specs.declared.terminal.Token.{Token as Terminal}
use Rattle.pe_text.specs.declared.token.Kind.{Kind}
use Rattle.pe_text.specs.declared.token.Kind.TheVariants.{End}
use Rattle.pe_text.specs.declared.token.Token.{Token}
use Rattle.pe_compare.specs.declared.map_table.TheConstants.{TOP, CLOCK, SUPPLY, PORT, TIE, REG, DROP, START, STEP, INV, ZERO, ONE, WORD, LINE}

-- the first word of a line
abbrev pub first_word_of : List ℕ → ℕ
first_word_of bytes =
    if bytes_eq bytes (codes "top") then TOP
    else if bytes_eq bytes (codes "clock") then CLOCK
    else if bytes_eq bytes (codes "supply") then SUPPLY
    else if bytes_eq bytes (codes "port") then PORT
    else if bytes_eq bytes (codes "tie") then TIE
    else if bytes_eq bytes (codes "reg") then REG
    else if bytes_eq bytes (codes "drop") then DROP
    else if bytes_eq bytes (codes "start") then START
    else if bytes_eq bytes (codes "step") then STEP
    else WORD

-- a word behind the first
abbrev pub next_word_of : List ℕ → ℕ
next_word_of bytes =
    if bytes_eq bytes (codes "inv") then INV
    else if bytes_eq bytes (codes "0") then ZERO
    else if bytes_eq bytes (codes "1") then ONE
    else WORD

abbrev pub word_of : Bool → List ℕ → ℕ
word_of is_first bytes = if is_first then first_word_of bytes else next_word_of bytes

-- the terminal of a token of these bytes
abbrev pub terminal_of : Bool → Kind → List ℕ → ℕ
terminal_of is_first End bytes = LINE
terminal_of is_first _ bytes = word_of is_first bytes

-- the bytes of a token
abbrev pub bytes_of : List ℕ → Token → List ℕ
bytes_of text t = slice_range text t.span.from t.span.to

-- the tokens as terminals, each with its number, the first being n, and one more end of a line
abbrev pub terminals_from : List ℕ → Bool → ℕ → List Token → List Terminal
terminals_from text is_first n [] = record { kind = LINE; place = n } ∷ []
terminals_from text is_first n (t ∷ ts) =
    record { kind = terminal_of is_first t.kind (bytes_of text t); place = n }
    ∷ terminals_from text (terminal_of is_first t.kind (bytes_of text t) == LINE) (suc n) ts

-- the tokens of a text as terminals
abbrev pub terminals_of : List ℕ → List Token → List Terminal
terminals_of text tokens = terminals_from text true 0 tokens
