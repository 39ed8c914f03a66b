-- Tokens with their bytes, and the first among them that passes a test.
use Rattle.std.specs.Prelude.{ℕ, ◌+◌, ◌≤◌, Bool, cond, List, [], ◌∷◌, map}
use Rattle.std.specs.List.{slice_range}
use Rattle.pe_text.specs.declared.token.Kind.{Kind}
use Rattle.pe_text.specs.declared.token.Token.{Token}

pub record Lexeme : Type 0 where
  pub kind : Kind
  pub bytes : List ℕ

-- the token is a part of a text of so many bytes
pub record IsPartOf (count : ℕ) (t : Token) : Type 0 where
  pub order : t.span.from ≤ t.span.to
  pub within : t.span.to ≤ count

-- a token of the text, with its bytes
abbrev pub lexeme_of : List ℕ → Token → Lexeme
lexeme_of text t = record { kind = t.kind; bytes = slice_range text t.span.from t.span.to }

abbrev pub lexemes_of : List ℕ → List Token → List Lexeme
lexemes_of text tokens = map (lexeme_of text) tokens

-- Which lexeme is the first that passes the test, or how many there are where none does. The test sees what the lexemes
-- before it have made, its kind and bytes, and the lexemes behind it.
abbrev pub first_in : {C : Type 0} → (C → Kind → List ℕ → List Lexeme → Bool) → (C → Kind → List ℕ → C) → C → List Lexeme → ℕ
first_in test next c [] = 0
first_in test next c (l ∷ ls) = cond (test c l.kind l.bytes ls) 0 (1 + first_in test next (next c l.kind l.bytes) ls)
