-- What a text spells in a language with a grammar over its terminals, and why it is refused.
use Rattle.std.specs.Prelude.{◌≡◌, ◌⊎◌, ℕ, List}
use Rattle.pe_grammar.specs.declared.form.Entry.{Entry}
use Rattle.pe_grammar.specs.declared.terminal.Token.{Token as Terminal}
use Rattle.pe_grammar.specs.Derivation.{Derivation}
use Rattle.pe_grammar.specs.Grammar.{Spells, IsFault}
use Rattle.pe_text.specs.declared.fault.ReadFault.{ReadFault}
use Rattle.pe_text.specs.declared.fault.ReadFault.TheVariants as fault
use Rattle.pe_text.specs.declared.language.Lang.{Lang}
use Rattle.pe_text.specs.declared.token.Token.{Token}
use Rattle.pe_text.specs.Scan.{IsScanned, IsScanFault}
use Rattle.pe_reader.specs.Places.{byte_of}

-- the text has these tokens, of which nothing but the grammar is asked, and they spell d
pub record IsParsed (language : Lang) (kinds : List ℕ → List Token → List Terminal) (grammar : List Entry) (start : ℕ) (text : List ℕ) (tokens : List Token) (d : Derivation) : Type 0 where
  pub scanned : IsScanned language text tokens
  pub spelled : Spells grammar start (kinds text tokens) d

-- of these tokens of the text, the one of this number is the first with which no text goes on
pub record IsWrong (language : Lang) (kinds : List ℕ → List Token → List Terminal) (grammar : List Entry) (start : ℕ) (text : List ℕ) (tokens : List Token) (number at : ℕ) : Type 0 where
  pub scanned : IsScanned language text tokens
  pub fault : IsFault grammar start (kinds text tokens) number
  pub is : at ≡ byte_of text tokens (kinds text tokens) number

-- the refusal, unless memory ran out, is of the first token with which no text goes on
abbrev pub IsSyntaxFault : Lang → (List ℕ → List Token → List Terminal) → List Entry → ℕ → List ℕ → ReadFault → Type 0
IsSyntaxFault language kinds grammar start text fault.Memory = Unit {0}
IsSyntaxFault language kinds grammar start text (fault.Syntax at) =
    (tokens : List Token) × (number : ℕ) × IsWrong language kinds grammar start text tokens number at
IsSyntaxFault language kinds grammar start text _ = ⊥

-- why a text is refused: what it shows before its grammar is tried, and then its grammar
abbrev pub IsReadFault : Lang → (List ℕ → List Token → List Terminal) → List Entry → ℕ → List ℕ → ReadFault → Type 0
IsReadFault language kinds grammar start text f = IsScanFault language text f ⊎ IsSyntaxFault language kinds grammar start text f
