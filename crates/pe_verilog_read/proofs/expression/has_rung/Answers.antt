use Rattle.std.proofs.Common.{sym, ◌∙◌}
use Rattle.pe_verilog_read.proofs.Shapes.{rung_at}
use Rattle.pe_verilog_read.proofs.expression.has_rung.Goals as goal

pub returns : goal.returns
returns c =
    rung_at c.args._grammar.now c.args._rules.now.any 9 c.args._place c.args._levels c.requires.copy.rungs (c.requires.copy.operand.unary_is ∙ sym c.requires.place) c.requires.some c.requires.few
