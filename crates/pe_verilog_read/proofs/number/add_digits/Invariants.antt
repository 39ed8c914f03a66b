use Rattle.std.proofs.Common.{◌≡◌, ◌++◌, length}
use Rattle.pe_verilog_read.specs.Numbers.{digits_bits}
use Rattle.pe_verilog_read.proofs.number.add_digits.Given as goal

abbrev pub decreases-loop-left : goal.decreases-loop-left
decreases-loop-left l = length l.left

abbrev pub invariant-loop-left : goal.invariant-loop-left
invariant-loop-left l = digits_bits l.width l.digits ≡ l.bits ++ digits_bits l.width l.left
