use Rattle.std.proofs.Common.{◌≡◌, ◌≤◌, drop}
use Rattle.pe_verilog_read.specs.Numbers.{value_of}
use Rattle.pe_verilog_read.proofs.number.size_value.Given as goal

abbrev pub invariant-loop-byte : goal.invariant-loop-byte
invariant-loop-byte l = record { small : l.size ≤ 128; so_far : value_of 0 l.digits ≡ value_of l.size (drop l.byte-index l.digits) }
