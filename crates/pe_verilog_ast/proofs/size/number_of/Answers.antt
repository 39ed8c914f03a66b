use Rattle.std.proofs.Common.{arith}
use Rattle.pe_verilog_ast.proofs.Steps.{number_step}
use Rattle.pe_verilog_ast.proofs.size.number_of.Goals as goal

pub loop-i-preserved : goal.loop-i-preserved
loop-i-preserved c =
    let s = c.saturating_add-value.ensures in (
      number_step c.args.digits.now c.loop-i.i c.loop-i.value c.loop-i.power _ _ _ _ c.loop-i-test.true c.bit_at.ensures
          c.saturating_mul.ensures c.saturating_add-value.ensures c.saturating_add-power.ensures c.loop-i.invariant.0,
      omega arith,
    )
