use Rattle.std.proofs.Common.{arith}
use Rattle.pe_refute.proofs.Judged.{each_below}
use Rattle.pe_refute.proofs.admit.chain_vars.Goals as goal

pub returns : goal.returns
returns c = each_below _ c.args.chain.now (λ j d lt. c.loop-d.invariant j d (omega (arith, c.loop-d-test.false)))
