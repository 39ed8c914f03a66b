use Rattle.std.proofs.Common.{refl}
use Rattle.pe_grammar.specs.Written.{rule}
use Rattle.pe_grammar.proofs.Same.{from_table, to_table}
use Rattle.pe_verilog_read.specs.VerilogGrammar.{verilog_grammar}
use Rattle.pe_verilog_read.specs.declared.verilog_table.TheConstants.{VERILOG, AT_RTL, AT_NETLIST}
use Rattle.pe_verilog_read.proofs.Answering.{one_tree, not_both, one_refusal}
use Rattle.pe_verilog_read.proofs.reading.one_source.Goals as goal

pub returns-clause-one : goal.returns-clause-one
returns-clause-one c = one_tree

pub returns-clause-not_both : goal.returns-clause-not_both
returns-clause-not_both c = not_both

pub returns-clause-one_fault : goal.returns-clause-one_fault
returns-clause-one_fault c = one_refusal

pub returns-clause-written_rtl : goal.returns-clause-written_rtl
returns-clause-written_rtl c = λ d. (from_table VERILOG verilog_grammar refl d AT_RTL (rule 0) refl, to_table VERILOG verilog_grammar refl d AT_RTL (rule 0) refl)

pub returns-clause-written_netlist : goal.returns-clause-written_netlist
returns-clause-written_netlist c = λ d. (from_table VERILOG verilog_grammar refl d AT_NETLIST (rule 1) refl, to_table VERILOG verilog_grammar refl d AT_NETLIST (rule 1) refl)
