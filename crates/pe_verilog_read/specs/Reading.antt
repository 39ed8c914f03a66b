-- The tree that a text of Verilog spells.
use Rattle.std.specs.Prelude.{◌≡◌, ℕ, Bool, true, false, List, Result, Ok, Err}
use Rattle.pe_grammar.specs.Derivation.{Derivation}
use Rattle.pe_reader.specs.Reading.{IsParsed, IsWrong, IsReadFault}
use Rattle.pe_text.specs.declared.fault.ReadFault.{ReadFault}
use Rattle.pe_text.specs.declared.fault.ReadFault.TheVariants as fault
use Rattle.pe_text.specs.declared.language.Lang.{Lang}
use Rattle.pe_text.specs.declared.language.Lang.TheVariants.{Rtl, Netlist, Upf, Liberty, Map}
use Rattle.pe_text.specs.declared.token.Token.{Token}
use Rattle.pe_verilog_ast.specs.declared.module.Source.{Source}
use Rattle.pe_verilog_read.specs.Modules.{source_of}
use Rattle.pe_verilog_read.specs.Starts.{start_of}
use Rattle.pe_verilog_read.specs.Terminals.{terminals_of}
use Rattle.pe_verilog_read.specs.Words.{word_at}
use Rattle.pe_verilog_read.specs.declared.verilog_table.TheConstants.{VERILOG}

abbrev pub is_net : Lang → Bool
is_net Netlist = true
is_net Rtl = false
is_net Upf = false
is_net Liberty = false
is_net Map = false

-- these tokens of the text spell the tree
abbrev pub IsSpelled : Lang → List ℕ → List Token → Source → Type 0
IsSpelled language text tokens s =
    (d : Derivation) × IsParsed language terminals_of VERILOG (start_of language) text tokens d × (s ≡ source_of (word_at text tokens) (is_net language) d)

-- the text of the language spells the tree
abbrev pub IsVerilog : Lang → List ℕ → Source → Type 0
IsVerilog language text s = (tokens : List Token) × IsSpelled language text tokens s

-- of these tokens of the text one is the first with which no text goes on, unless memory ran out
abbrev pub IsMisspelled : Lang → List ℕ → List Token → ReadFault → Type 0
IsMisspelled language text tokens fault.Memory = Unit {0}
IsMisspelled language text tokens (fault.Syntax at) = (number : ℕ) × IsWrong language terminals_of VERILOG (start_of language) text tokens number at
IsMisspelled language text tokens _ = ⊥

-- why a text of the language is refused
abbrev pub IsVerilogFault : Lang → List ℕ → ReadFault → Type 0
IsVerilogFault language text f = IsReadFault language terminals_of VERILOG (start_of language) text f

-- the answer is the tree, unless memory ran out
abbrev pub IsAnswer : Source → Result Source ReadFault → Type 0
IsAnswer s (Ok t) = t ≡ s
IsAnswer s (Err fault.Memory) = Unit {0}
IsAnswer s (Err _) = ⊥
