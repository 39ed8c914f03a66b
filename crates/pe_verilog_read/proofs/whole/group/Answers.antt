use Rattle.pe_verilog_read.proofs.Shapes.{condition_shape}
use Rattle.pe_verilog_read.proofs.whole.group.Goals as goal

pub returns : goal.returns
returns c = condition_shape _ _ _ _ _ _ _ c.parts.ensures.is c.parts-2.ensures.is c.in_ok-whole.ensures
