use Rattle.std.proofs.Common.{◌^◌}
use Rattle.pe_verilog_read.proofs.Digits.{value_step, value_end}
use Rattle.pe_verilog_read.proofs.number.value.Goals as goal

pub loop-byte-preserved : goal.loop-byte-preserved
loop-byte-preserved c = record {
  small = c.grown_value-value.type_inv;
  so_far = value_step (2 ^ 128) _ c.loop-byte.value c.grown_value-value.result c.loop-byte.byte-index c.args.digits.now c.loop-byte-test.true c.loop-byte.invariant.so_far c.grown_value-value.ensures;
}

pub returns : goal.returns
returns c = value_end (2 ^ 128) _ c.loop-byte.value c.loop-byte.byte-index c.args.digits.now c.loop-byte-test.false c.loop-byte.invariant.small c.loop-byte.invariant.so_far
