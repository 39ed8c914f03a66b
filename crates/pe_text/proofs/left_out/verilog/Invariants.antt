use Rattle.std.proofs.Common.{◌≡◌, ◌+◌, drop}
use Rattle.pe_text.specs.Lexemes.{lexemes_of, first_in}
use Rattle.pe_text.specs.declared.verilog_left_out.Before.TheVariants.{Other}
use Rattle.pe_text.specs.VerilogLeftOut.{is_verilog_left_out, behind_verilog}
use Rattle.pe_text.proofs.left_out.verilog.Given as goal

abbrev pub invariant-loop-i : goal.invariant-loop-i
invariant-loop-i l = first_in (is_verilog_left_out l.netlist) behind_verilog Other (lexemes_of l.text l.tokens)
    ≡ l.i + first_in (is_verilog_left_out l.netlist) behind_verilog l.before (lexemes_of l.text (drop l.i l.tokens))
