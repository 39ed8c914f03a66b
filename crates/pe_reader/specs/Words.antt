-- The words that the tokens of a text are.
use Rattle.std.specs.Prelude.{ℕ, ◌-◌, List, [], length, drop, slice_get, slice_range, Option, Some, None}
use Rattle.pe_text.specs.declared.token.Kind.{Kind}
use Rattle.pe_text.specs.declared.token.Kind.TheVariants.{Text, Escaped}
use Rattle.pe_text.specs.declared.token.Token.{Token}

-- of a quoted text what stands between the quotes, of an escaped name what stands behind the backslash, else all bytes
abbrev pub word_in : Kind → List ℕ → List ℕ
word_in Text bytes = slice_range bytes 1 (length bytes - 1)
word_in Escaped bytes = drop 1 bytes
word_in _ bytes = bytes

-- the word of a token
abbrev pub word_of : List ℕ → Token → List ℕ
word_of text t = word_in t.kind (slice_range text t.span.from t.span.to)

abbrev pub word_among : List ℕ → Option Token → List ℕ
word_among text None = []
word_among text (Some t) = word_of text t

-- the word of the token of this number, or none where there is no such token
abbrev pub word_at : List ℕ → List Token → ℕ → List ℕ
word_at text tokens n = word_among text (slice_get tokens n)
