-- Numbers of Verilog (IEEE 1364) that have too many bits.
use Rattle.std.specs.Prelude.{◌≡◌, ◌⊎◌, ◌<◌, ℕ, ◌==◌, ◌+◌, ◌-◌, ◌*◌, Bool, false, nat_lt, List, [], ◌∷◌, if◌then◌else◌}
use Rattle.pe_text.specs.declared.token.Kind.{Kind}
use Rattle.pe_text.specs.declared.token.Kind.TheVariants.{Word, Escaped, Number, Text, Mark, End}
use Rattle.pe_text.specs.Lexemes.{Lexeme, first_in}

-- how many bits a number may have
abbrev pub most_bits : ℕ
most_bits = 128

-- a size with one more digit; a `_` is none
abbrev pub grown_of : ℕ → ℕ → ℕ
grown_of n b = if b == 95 then n else 10 * n + (b - 48)

-- The size of a number, which stands before its quote, is over the limit. The digits before these have the value n. A number
-- without a quote has no size.
abbrev pub is_size_over : ℕ → List ℕ → Bool
is_size_over n [] = false
is_size_over n (b ∷ bs) = if b == 39 then nat_lt most_bits n else is_size_over (grown_of n b) bs

abbrev pub is_too_wide : Unit {0} → Kind → List ℕ → List Lexeme → Bool
is_too_wide c Word bytes ls = false
is_too_wide c Escaped bytes ls = false
is_too_wide c Number bytes ls = is_size_over 0 bytes
is_too_wide c Text bytes ls = false
is_too_wide c Mark bytes ls = false
is_too_wide c End bytes ls = false

abbrev pub nothing_behind : Unit {0} → Kind → List ℕ → Unit {0}
nothing_behind c kind bytes = c

-- which lexeme is the first number with too many bits, or how many lexemes there are
abbrev pub first_too_wide : List Lexeme → ℕ
first_too_wide ls = first_in is_too_wide nothing_behind tt ls

-- a size that was kept stands for the size n: it is n, or both are over the limit
abbrev pub Stands : ℕ → ℕ → Type 0
Stands n kept = (n ≡ kept) ⊎ ((most_bits < n) × (most_bits < kept))
