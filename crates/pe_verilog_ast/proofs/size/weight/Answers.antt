use Rattle.std.proofs.Common.{◌∙◌, max, arith}
use Rattle.pe_verilog_ast.specs.Weights.{sized}
use Rattle.pe_verilog_ast.proofs.Caps.{capped_max}
use Rattle.pe_verilog_ast.proofs.Costs.{weight_at}
use Rattle.pe_verilog_ast.proofs.size.weight.Goals as goal

pub returns : goal.returns
returns c =
    let x = sized c.args.widths.now c.args.e.now in
    let p = c.expression_cost-cost.ensures in
    c.weight_at.ensures ∙ weight_at x c.expression_cost-cost.result (max c.args.context x.own) c.larger.result p
    (c.larger.ensures ∙ capped_max c.args.context x.own c.args.context _ (omega arith) p.size_is)
