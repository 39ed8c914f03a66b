use Rattle.std.proofs.Common.{refl}
use Rattle.pe_verilog_ast.proofs.Costs.{complement}
use Rattle.pe_verilog_ast.proofs.cost.complement.Goals as goal

pub returns : goal.returns
returns c x p = complement x c.args.a _ p refl refl c.saturating_add.ensures
