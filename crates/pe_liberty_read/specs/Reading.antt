-- The group that a text is.
use Rattle.std.specs.Prelude.{◌≡◌, ℕ, List, Result, Ok, Err}
use Rattle.pe_grammar.specs.Derivation.{Derivation}
use Rattle.pe_reader.specs.Reading.{IsParsed, IsReadFault as IsRefused}
use Rattle.pe_text.specs.declared.fault.ReadFault.{ReadFault}
use Rattle.pe_text.specs.declared.fault.ReadFault.TheVariants as fault
use Rattle.pe_text.specs.declared.language.Lang.TheVariants.{Liberty}
use Rattle.pe_text.specs.declared.token.Token.{Token}
use Rattle.pe_liberty_read.specs.declared.liberty_table.TheConstants.{LIBERTY, AT_LIBRARY}
use Rattle.pe_liberty_read.specs.declared.tree.Group.{Group}
use Rattle.pe_liberty_read.specs.Meaning.{group_of}
use Rattle.pe_liberty_read.specs.Terminals.{terminals_of}

-- the text spells the group
abbrev pub IsLiberty : List ℕ → Group → Type 0
IsLiberty text g =
    (tokens : List Token) × (d : Derivation) × IsParsed Liberty terminals_of LIBERTY AT_LIBRARY text tokens d × (g ≡ group_of text tokens d)

-- why a text spells none
abbrev pub IsReadFault : List ℕ → ReadFault → Type 0
IsReadFault text f = IsRefused Liberty terminals_of LIBERTY AT_LIBRARY text f

-- the answer is g, unless memory ran out
abbrev pub IsAnswer : Group → Result Group ReadFault → Type 0
IsAnswer g (Ok h) = h ≡ g
IsAnswer g (Err fault.Memory) = Unit {0}
IsAnswer g (Err _) = ⊥
