use Rattle.std.proofs.Common.{◌≡◌, drop}
use Rattle.pe_text.specs.VerilogLeftOut.{is_signed}
use Rattle.pe_text.proofs.verilog_left_out.is_signed.Given as goal

abbrev pub invariant-loop-i : goal.invariant-loop-i
invariant-loop-i l = is_signed l.number ≡ is_signed (drop l.i l.number)
