use Rattle.std.proofs.Common.{refl}
use Rattle.pe_verilog_read.proofs.Digits.{digits_step}
use Rattle.pe_verilog_read.proofs.number.add_digits.Goals as goal

pub loop-left-preserved : goal.loop-left-preserved
loop-left-preserved c =
    digits_step c.args.width c.loop-left.left.now _ _ c.loop-left.bits c.add_digit.new.bits c.in-len1-up.len_at_least c.loop-left.invariant refl c.in_ok-add_digit.ensures
