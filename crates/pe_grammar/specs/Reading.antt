-- What a reader answers: a derivation and the rest, or where the text can't go on.
use Rattle.std.specs.Prelude.{◌≡◌, ℕ, Bool, true, false, not, ◌&&◌, ◌||◌, List, [], ◌∷◌, ◌++◌, length, Some}
use Rattle.pe_grammar.specs.declared.terminal.Token.{Token}
use Rattle.pe_grammar.specs.declared.form.Entry.{Entry}
use Rattle.pe_grammar.specs.declared.failure.Stop.{Stop}
use Rattle.pe_grammar.specs.declared.failure.Stop.TheVariants.{Memory, Left}
use Rattle.pe_grammar.specs.Derivation.{Derivation, text, heads, IsFresh, front, IsNear}
use Rattle.pe_grammar.specs.Grammar.{Derives, IsViable}
use Rattle.pe_grammar.specs.Table.{nullable, starts, goes_on}

-- a text of n that could end here can't go on
abbrev pub Stops : List Entry → ℕ → List Token → Type 0
Stops g n rest = (k : ℕ) → front rest ≡ Some k → goes_on g n k ≡ true → ⊥

-- d is at the front, and nothing else is in a text that agrees up to the next token
pub record Reads (g : List Entry) (n : ℕ) (tokens : List Token) (d : Derivation) (rest : List Token) : Type 0 where
  pub derives : Derives g n d
  pub split : tokens ≡ text d ++ rest
  pub near : IsNear d rest
  pub only : (other : Derivation) (after y : List Token) → Derives g n other → Stops g n after → IsNear other after →
      text other ++ after ≡ text d ++ y → front y ≡ front rest → other ≡ d

-- a text can begin with before, and none agrees up to the next token
pub record Refuses (g : List Entry) (n : ℕ) (tokens before rest : List Token) : Type 0 where
  pub split : tokens ≡ before ++ rest
  pub viable : IsViable g n before
  pub none : (other : Derivation) (after y : List Token) → Derives g n other → Stops g n after → IsNear other after →
      text other ++ after ≡ before ++ y → front y ≡ front rest → ⊥

abbrev pub IsRefused : List Entry → ℕ → List Token → ℕ → Type 0
IsRefused g n tokens left = (before : List Token) × (rest : List Token) × (length rest ≡ left) × Refuses g n tokens before rest

-- what an Err says
abbrev pub IsStop : List Entry → ℕ → List Token → Stop → Type 0
IsStop g n tokens Memory = Unit {0}
IsStop g n tokens (Left left) = IsRefused g n tokens left

-- the tokens begin as the form n may
abbrev pub starts_at : List Entry → ℕ → List Token → Bool
starts_at g n [] = false
starts_at g n (t ∷ ts) = starts g n t.kind

-- whether a choice of a and b is a
abbrev pub goes_left : List Entry → ℕ → ℕ → List Token → Bool
goes_left g a b tokens = starts_at g a tokens || (nullable g a && not (starts_at g b tokens))

-- the same, of a repeat before which some heads were used
pub record ReadsOnce (g : List Entry) (n set : ℕ) (used : List ℕ) (tokens : List Token) (d : Derivation) (rest : List Token) : Type 0 where
  pub derives : Derives g n d
  pub fresh : IsFresh set used (heads d)
  pub split : tokens ≡ text d ++ rest
  pub near : IsNear d rest
  pub only : (other : Derivation) (after y : List Token) → Derives g n other → IsFresh set used (heads other) → Stops g n after → IsNear other after →
      text other ++ after ≡ text d ++ y → front y ≡ front rest → other ≡ d

pub record RefusesOnce (g : List Entry) (n set : ℕ) (used : List ℕ) (tokens before rest : List Token) : Type 0 where
  pub split : tokens ≡ before ++ rest
  pub viable : (more : List Token) × (d : Derivation) × Derives g n d × IsFresh set used (heads d) × (text d ≡ before ++ more)
  pub none : (other : Derivation) (after y : List Token) → Derives g n other → IsFresh set used (heads other) → Stops g n after → IsNear other after →
      text other ++ after ≡ before ++ y → front y ≡ front rest → ⊥

abbrev pub IsRefusedOnce : List Entry → ℕ → ℕ → List ℕ → List Token → ℕ → Type 0
IsRefusedOnce g n set used tokens left = (before : List Token) × (rest : List Token) × (length rest ≡ left) × RefusesOnce g n set used tokens before rest

abbrev pub IsStopOnce : List Entry → ℕ → ℕ → List ℕ → List Token → Stop → Type 0
IsStopOnce g n set used tokens Memory = Unit {0}
IsStopOnce g n set used tokens (Left left) = IsRefusedOnce g n set used tokens left
