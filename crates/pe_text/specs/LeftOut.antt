-- The first word that is left out of a text of a language.
use Rattle.std.specs.Prelude.{ℕ, true, false, List, length}
use Rattle.pe_text.specs.declared.language.Lang.{Lang}
use Rattle.pe_text.specs.declared.language.Lang.TheVariants as lang
use Rattle.pe_text.specs.declared.verilog_left_out.Before.TheVariants.{Other}
use Rattle.pe_text.specs.Lexemes.{Lexeme, first_in}
use Rattle.pe_text.specs.VerilogLeftOut.{is_verilog_left_out, behind_verilog}
use Rattle.pe_text.specs.Commands.{no_command, behind_command, is_command_left_out}

-- which lexeme is the first that is left out, or how many there are where none is
abbrev pub first_left_out : Lang → List Lexeme → ℕ
first_left_out lang.Rtl ls = first_in (is_verilog_left_out false) behind_verilog Other ls
first_left_out lang.Netlist ls = first_in (is_verilog_left_out true) behind_verilog Other ls
first_left_out lang.Upf ls = first_in is_command_left_out behind_command no_command ls
first_left_out lang.Liberty ls = length ls
first_left_out lang.Map ls = length ls
