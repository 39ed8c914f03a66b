-- The words of tokens, by their numbers. The definition is kept shut, since no rule looks into it.
use Rattle.std.specs.Prelude.{ℕ, List}
use Rattle.pe_reader.specs.Words.{word_at as read_at}
use Rattle.pe_text.specs.declared.token.Token.{Token}

unfoldable pub word_at : List ℕ → List Token → ℕ → List ℕ
word_at text tokens n = read_at text tokens n
