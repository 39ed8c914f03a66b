-- The map file that a text is.
use Rattle.std.specs.Prelude.{◌≡◌, ℕ, List, Result, Ok, Err}
use Rattle.pe_grammar.specs.Derivation.{Derivation}
use Rattle.pe_reader.specs.Reading.{IsParsed, IsReadFault}
use Rattle.pe_text.specs.declared.fault.ReadFault.{ReadFault}
use Rattle.pe_text.specs.declared.fault.ReadFault.TheVariants as fault
use Rattle.pe_text.specs.declared.language.Lang.TheVariants.{Map}
use Rattle.pe_text.specs.declared.token.Token.{Token}
use Rattle.pe_compare.specs.declared.map.MapFile.{MapFile}
use Rattle.pe_compare.specs.declared.map_table.TheConstants.{MAP, AT_MAP}
use Rattle.pe_compare.specs.MapMeaning.{map_of}
use Rattle.pe_compare.specs.MapTerminals.{terminals_of}

-- the text spells the map file
abbrev pub IsMap : List ℕ → MapFile → Type 0
IsMap text m = (tokens : List Token) × (d : Derivation) × IsParsed Map terminals_of MAP AT_MAP text tokens d × (m ≡ map_of text tokens d)

-- why a text spells none
abbrev pub IsMapFault : List ℕ → ReadFault → Type 0
IsMapFault text f = IsReadFault Map terminals_of MAP AT_MAP text f

-- the answer is m, unless memory ran out
abbrev pub IsMapAnswer : MapFile → Result MapFile ReadFault → Type 0
IsMapAnswer m (Ok n) = n ≡ m
IsMapAnswer m (Err fault.Memory) = Unit {0}
IsMapAnswer m (Err _) = ⊥
