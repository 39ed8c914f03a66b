use Rattle.std.proofs.Common.{◌≡◌, ◌++◌, ◌-◌}
use Rattle.pe_verilog_read.specs.Numbers.{bits_of}
use Rattle.pe_verilog_read.proofs.number.add_bits.Given as goal

abbrev pub invariant-loop : goal.invariant-loop
invariant-loop l = l.initial.bits ++ bits_of l.count l.value ≡ l.bits ++ bits_of (l.count - l.counter) l.rest
