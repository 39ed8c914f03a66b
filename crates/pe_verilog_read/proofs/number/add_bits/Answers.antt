use Rattle.pe_verilog_read.proofs.Digits.{bits_step}
use Rattle.pe_verilog_read.proofs.number.add_bits.Goals as goal

pub loop-preserved : goal.loop-preserved
loop-preserved c = bits_step _ _ _ c.args.count c.loop.counter c.loop.rest _ c.loop-test.true c.loop.invariant c.bit.ensures c.in_ok-push.ensures.ok
