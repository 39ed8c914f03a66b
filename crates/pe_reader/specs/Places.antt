-- Where the tokens and terminals of a text start.
use Rattle.std.specs.Prelude.{ℕ, List, length, slice_get, Option, Some, None}
use Rattle.pe_grammar.specs.declared.terminal.Token.{Token as Terminal}
use Rattle.pe_text.specs.declared.token.Token.{Token}

abbrev pub start_in : List ℕ → Option Token → ℕ
start_in text None = length text
start_in text (Some t) = t.span.from

-- the byte at which the token of this number starts, or where the text ends
abbrev pub start_of : List ℕ → List Token → ℕ → ℕ
start_of text tokens n = start_in text (slice_get tokens n)

abbrev pub byte_in : List ℕ → List Token → Option Terminal → ℕ
byte_in text tokens None = length text
byte_in text tokens (Some t) = start_of text tokens t.place

-- the byte at which the terminal of this number starts, by its token, or where the text ends
abbrev pub byte_of : List ℕ → List Token → List Terminal → ℕ → ℕ
byte_of text tokens terminals n = byte_in text tokens (slice_get terminals n)
