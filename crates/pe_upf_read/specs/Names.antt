-- The names and words that a derivation has. Braces round names only group them.
use Rattle.std.specs.Prelude.{ℕ, ◌==◌, ◌-◌, Bool, ◌||◌, List, [], ◌∷◌, length, slice_get, slice_range, Option, Some, None, if◌then◌else◌}
use Rattle.pe_grammar.specs.declared.terminal.Token.{Token as Terminal}
use Rattle.pe_grammar.specs.Derivation.{Derivation, text as terminals_in}
use Rattle.pe_text.specs.declared.token.Token.{Token}
use Rattle.pe_upf_read.specs.declared.table.TheConstants.{OPEN, CLOSE, OTHER}
use Rattle.pe_reader.specs.Words.{word_at}
use Rattle.pe_reader.specs.Places.{start_of}

abbrev pub is_brace : ℕ → Bool
is_brace kind = (kind == OPEN) || (kind == CLOSE)

-- the words of terminals without the braces, in order
abbrev pub names_in : List ℕ → List Token → List Terminal → List (List ℕ)
names_in text tokens [] = []
names_in text tokens (t ∷ ts) = if is_brace t.kind then names_in text tokens ts else word_at text tokens t.place ∷ names_in text tokens ts

-- the first of them
abbrev pub name_in : List ℕ → List Token → List Terminal → List ℕ
name_in text tokens [] = []
name_in text tokens (t ∷ ts) = if is_brace t.kind then name_in text tokens ts else word_at text tokens t.place

unfoldable pub names_of : List ℕ → List Token → Derivation → List (List ℕ)
names_of text tokens d = names_in text tokens (terminals_in d)

unfoldable pub name_of : List ℕ → List Token → Derivation → List ℕ
name_of text tokens d = name_in text tokens (terminals_in d)

abbrev pub terminal_or_other : Option Terminal → Terminal
terminal_or_other None = record { kind = OTHER; place = 0 }
terminal_or_other (Some t) = t

-- the terminal at this place of a list
abbrev pub terminal_at : List Terminal → ℕ → Terminal
terminal_at ts i = terminal_or_other (slice_get ts i)

abbrev pub end_in : List ℕ → Option Token → ℕ
end_in text None = length text
end_in text (Some t) = t.span.to

-- the byte behind the token of this number
abbrev pub end_of : List ℕ → List Token → ℕ → ℕ
end_of text tokens n = end_in text (slice_get tokens n)

-- from a brace to the brace that closes it what stands between the two, or else the word
abbrev pub piece_from : List ℕ → List Token → Terminal → Terminal → List ℕ
piece_from text tokens first last =
    if first.kind == OPEN then slice_range text (end_of text tokens first.place) (start_of text tokens last.place)
    else word_at text tokens first.place

abbrev pub piece_in : List ℕ → List Token → List Terminal → List ℕ
piece_in text tokens ts = piece_from text tokens (terminal_at ts 0) (terminal_at ts (length ts - 1))

-- a word, or what stands between braces
unfoldable pub piece_of : List ℕ → List Token → Derivation → List ℕ
piece_of text tokens d = piece_in text tokens (terminals_in d)
