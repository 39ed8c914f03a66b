-- The first lexeme that passes a test, step by step.
use Rattle.std.proofs.Common.{◌≡◌, ℕ, ◌+◌, ◌<◌, Bool, true, false, cond, List, length, drop, get_or, drop-cons, add-one, refl, ap, arith}
use Rattle.std.specs.List.{slice_range}
use Rattle.pe_text.specs.declared.token.Kind.{Kind}
use Rattle.pe_text.specs.declared.token.Token.{Token}
use Rattle.pe_text.specs.Lexemes.{Lexeme, lexemes_of, first_in}

-- the token at i is the first that passes the test, or the first is behind it
pub first_at : {C : Type 0} (test : C → Kind → List ℕ → List Lexeme → Bool) (next : C → Kind → List ℕ → C) (c : C) (text : List ℕ) (tokens : List Token) (i : ℕ) (d : Token)
    → i < length tokens
    → first_in test next c (lexemes_of text (drop i tokens))
    ≡ cond (test c (get_or tokens i d).kind (slice_range text (get_or tokens i d).span.from (get_or tokens i d).span.to) (lexemes_of text (drop (i + 1) tokens))) 0
    (1 + first_in test next (next c (get_or tokens i d).kind (slice_range text (get_or tokens i d).span.from (get_or tokens i d).span.to)) (lexemes_of text (drop (i + 1) tokens)))
first_at test next c text tokens i d lt = rw (drop-cons tokens i d lt, add-one i) refl

-- where the test fails at i, the first is behind it
pub first_behind : {C : Type 0} (test : C → Kind → List ℕ → List Lexeme → Bool) (next : C → Kind → List ℕ → C) (whole : ℕ) (c : C) (text : List ℕ) (tokens : List Token) (i : ℕ) (d : Token)
    → i < length tokens
    → test c (get_or tokens i d).kind (slice_range text (get_or tokens i d).span.from (get_or tokens i d).span.to) (lexemes_of text (drop (i + 1) tokens)) ≡ false
    → whole ≡ i + first_in test next c (lexemes_of text (drop i tokens))
    → whole ≡ i + 1 + first_in test next (next c (get_or tokens i d).kind (slice_range text (get_or tokens i d).span.from (get_or tokens i d).span.to)) (lexemes_of text (drop (i + 1) tokens))
first_behind test next whole c text tokens i d lt f h =
    let at = first_at test next c text tokens i d lt in
    let x = ap (λ b. cond b 0 (1 + first_in test next (next c (get_or tokens i d).kind (slice_range text (get_or tokens i d).span.from (get_or tokens i d).span.to)) (lexemes_of text (drop (i + 1) tokens)))) f in
    omega (arith, h, at, x)

-- where it passes, that is the first
pub first_here : {C : Type 0} (test : C → Kind → List ℕ → List Lexeme → Bool) (next : C → Kind → List ℕ → C) (whole : ℕ) (c : C) (text : List ℕ) (tokens : List Token) (i : ℕ) (d : Token)
    → i < length tokens
    → test c (get_or tokens i d).kind (slice_range text (get_or tokens i d).span.from (get_or tokens i d).span.to) (lexemes_of text (drop (i + 1) tokens)) ≡ true
    → whole ≡ i + first_in test next c (lexemes_of text (drop i tokens)) → i ≡ whole
first_here test next whole c text tokens i d lt f h =
    let at = first_at test next c text tokens i d lt in
    let x = ap (λ b. cond b 0 (1 + first_in test next (next c (get_or tokens i d).kind (slice_range text (get_or tokens i d).span.from (get_or tokens i d).span.to)) (lexemes_of text (drop (i + 1) tokens)))) f in
    omega (arith, h, at, x)
