use Rattle.std.proofs.Common.{refl}
use Rattle.pe_verilog_ast.proofs.Costs.{choice}
use Rattle.pe_verilog_ast.proofs.cost.choose.Goals as goal

pub returns : goal.returns
returns c d x y o p q =
    choice d x y c.args.a c.args.b c.in_context-both.result _ c.alone.result p q (c.alone.ensures d o)
    c.in_context-both.ensures.size c.in_context-both.ensures.fixed c.in_context-both.ensures.per_bit refl c.saturating_add.ensures refl
