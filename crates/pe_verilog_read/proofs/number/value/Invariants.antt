use Rattle.std.proofs.Common.{◌≡◌, ◌%◌, ◌^◌, ◌<◌, drop}
use Rattle.pe_verilog_read.specs.Numbers.{value_of}
use Rattle.pe_verilog_read.proofs.number.value.Given as goal

abbrev pub invariant-loop-byte : goal.invariant-loop-byte
invariant-loop-byte l = record { small : l.value < 2 ^ 128; so_far : value_of 0 l.digits % 2 ^ 128 ≡ value_of l.value (drop l.byte-index l.digits) % 2 ^ 128 }
