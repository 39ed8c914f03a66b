use Rattle.std.proofs.Common.{◌≡◌, ◌+◌, arith}
use Rattle.pe_verilog_ast.specs.Weights.{capped, alone_weight}
use Rattle.pe_verilog_ast.proofs.Costs.{one_bit}
use Rattle.pe_verilog_ast.proofs.cost.reduce.Goals as goal

pub returns : goal.returns
returns c x p =
    let a : c.alone.result ≡ capped (alone_weight x) = c.alone.ensures x p in
    let f = c.one_bit.ensures.fixed in
    one_bit (1 + alone_weight x) c.one_bit.result c.one_bit.ensures.size (omega arith) c.one_bit.ensures.per_bit
