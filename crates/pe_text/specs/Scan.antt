-- What a text shows before its grammar is tried: its tokens, or in this order a refusal of its length, of a token, of a word
-- that is left out, of a number over its limit.
use Rattle.std.specs.Prelude.{◌≡◌, ◌<◌, ◌≤◌, ◌⊎◌, ℕ, List, length, slice_index_or, Result, Ok, Err}
use Rattle.pe_text.specs.declared.language.Lang.{Lang}
use Rattle.pe_text.specs.declared.token.Token.{Token}
use Rattle.pe_text.specs.declared.fault.ReadFault.{ReadFault}
use Rattle.pe_text.specs.declared.fault.ReadFault.TheVariants as fault
use Rattle.pe_text.specs.declared.fault.Which.{Which}
use Rattle.pe_text.specs.declared.fault.Which.TheVariants.{File}
use Rattle.pe_text.specs.Language.{class_of}
use Rattle.pe_text.specs.Lexemes.{lexeme_of, lexemes_of}
use Rattle.pe_text.specs.Cut.{IsCut, IsBadAt}
use Rattle.pe_text.specs.LeftOut.{first_left_out}
use Rattle.pe_text.specs.Limits.{first_over, number_over}

-- how many bytes a text may have
abbrev pub most_bytes : ℕ
most_bytes = 16777216

-- the text is cut into these tokens, and none of them is left out
pub record IsAllowed (language : Lang) (text : List ℕ) (tokens : List Token) : Type 0 where
  pub short : length text ≤ most_bytes
  pub is_cut : IsCut (class_of language) text tokens
  pub allowed : first_left_out language (lexemes_of text tokens) ≡ length tokens

-- besides, no number is over its limit
pub record IsScanned (language : Lang) (text : List ℕ) (tokens : List Token) : Type 0 where
  pub is_allowed : IsAllowed language text tokens
  pub within : first_over language (lexemes_of text tokens) ≡ length tokens

-- of these tokens one is the first that is left out, starts at this byte and is this word
pub record IsLeftOut (language : Lang) (text : List ℕ) (tokens : List Token) (at : ℕ) (word : List ℕ) (t : Token) : Type 0 where
  pub is_there : first_left_out language (lexemes_of text tokens) < length tokens
  pub is_first : slice_index_or tokens (first_left_out language (lexemes_of text tokens)) t ≡ t
  pub starts : at ≡ t.span.from
  pub is_word : word ≡ (lexeme_of text t).bytes

-- of these tokens one is the first of which a number is over its limit, and starts at this byte
pub record IsOver (language : Lang) (text : List ℕ) (tokens : List Token) (at : ℕ) (number : Which) (t : Token) : Type 0 where
  pub is_there : first_over language (lexemes_of text tokens) < length tokens
  pub is_first : slice_index_or tokens (first_over language (lexemes_of text tokens)) t ≡ t
  pub starts : at ≡ t.span.from
  pub is_number : number ≡ number_over language (lexemes_of text tokens)

-- the refusal, unless memory ran out, is of the first word that is left out
abbrev pub IsLeftOutFault : Lang → List ℕ → List Token → ReadFault → Type 0
IsLeftOutFault language text tokens fault.Memory = Unit {0}
IsLeftOutFault language text tokens (fault.Unsupported at word) = (t : Token) × IsLeftOut language text tokens at word t
IsLeftOutFault language text tokens _ = ⊥

-- the refusal, unless memory ran out, is of the first number over its limit
abbrev pub IsOverFault : Lang → List ℕ → List Token → ReadFault → Type 0
IsOverFault language text tokens fault.Memory = Unit {0}
IsOverFault language text tokens (fault.Limit at number) = (t : Token) × IsOver language text tokens at number t
IsOverFault language text tokens _ = ⊥

-- the refusal, unless memory ran out, is of the first place where no token is
abbrev pub IsBadFault : Lang → List ℕ → ReadFault → Type 0
IsBadFault language text fault.Memory = Unit {0}
IsBadFault language text (fault.Syntax at) = IsBadAt (class_of language) text at
IsBadFault language text _ = ⊥

-- why a text is refused before its grammar is tried: the first of these that holds
abbrev pub IsScanFault : Lang → List ℕ → ReadFault → Type 0
IsScanFault language text f =
    ((most_bytes < length text) × (f ≡ fault.Limit most_bytes File))
    ⊎ ((length text ≤ most_bytes) × IsBadFault language text f)
    ⊎ ((tokens : List Token) × (length text ≤ most_bytes) × IsCut (class_of language) text tokens × IsLeftOutFault language text tokens f)
    ⊎ ((tokens : List Token) × IsAllowed language text tokens × IsOverFault language text tokens f)

-- the answer is these tokens, unless memory ran out
abbrev pub IsScanAnswer : List Token → Result (List Token) ReadFault → Type 0
IsScanAnswer tokens (Ok found) = found ≡ tokens
IsScanAnswer tokens (Err fault.Memory) = Unit {0}
IsScanAnswer tokens (Err _) = ⊥
