-- Where the grammar begins, by the language.
use Rattle.std.specs.Prelude.{ℕ}
use Rattle.pe_text.specs.declared.language.Lang.{Lang}
use Rattle.pe_text.specs.declared.language.Lang.TheVariants.{Rtl, Netlist, Upf, Liberty, Map}
use Rattle.pe_verilog_read.specs.declared.verilog_table.TheConstants.{AT_RTL, AT_NETLIST}

abbrev pub start_of : Lang → ℕ
start_of Netlist = AT_NETLIST
start_of Rtl = AT_RTL
start_of Upf = AT_RTL
start_of Liberty = AT_RTL
start_of Map = AT_RTL
