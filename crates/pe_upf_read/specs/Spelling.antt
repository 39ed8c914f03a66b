-- The tree that a text spells.
use Rattle.std.specs.Prelude.{◌≡◌, ℕ, List, Result, Ok, Err}
use Rattle.pe_grammar.specs.Derivation.{Derivation}
use Rattle.pe_text.specs.declared.fault.ReadFault.{ReadFault}
use Rattle.pe_text.specs.declared.fault.ReadFault.TheVariants as fault
use Rattle.pe_text.specs.declared.language.Lang.TheVariants.{Upf}
use Rattle.pe_text.specs.declared.token.Token.{Token}
use Rattle.pe_upf_read.specs.declared.intent.Intent.{Intent}
use Rattle.pe_upf_read.specs.declared.table.TheConstants.{UPF, AT_FILE}
use Rattle.pe_upf_read.specs.Meaning.{intent_of}
use Rattle.pe_reader.specs.Reading.{IsParsed, IsReadFault}
use Rattle.pe_upf_read.specs.Terminals.{terminals_of}

-- the text spells the tree
abbrev pub IsUpf : List ℕ → Intent → Type 0
IsUpf text intent =
    (tokens : List Token) × (d : Derivation) × IsParsed Upf terminals_of UPF AT_FILE text tokens d × (intent ≡ intent_of text tokens d)

-- why a text spells none
abbrev pub IsUpfFault : List ℕ → ReadFault → Type 0
IsUpfFault text f = IsReadFault Upf terminals_of UPF AT_FILE text f

-- the answer is this tree, unless memory ran out
abbrev pub IsAnswer : Intent → Result Intent ReadFault → Type 0
IsAnswer intent (Ok answer) = answer ≡ intent
IsAnswer intent (Err fault.Memory) = Unit {0}
IsAnswer intent (Err _) = ⊥
