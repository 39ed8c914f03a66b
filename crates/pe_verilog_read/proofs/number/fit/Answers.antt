use Rattle.pe_verilog_read.proofs.Digits.{fitted_step}
use Rattle.pe_verilog_read.proofs.number.fit.Goals as goal

pub loop-i-preserved : goal.loop-i-preserved
loop-i-preserved c =
    fitted_step c.args.bits.now _ c.loop-i.all c.push.new.self c.args.size c.loop-i.i _ c.args.fill c.loop-i-test.true c.loop-i.invariant c.bit_at.ensures c.in_ok-push.ensures.ok
