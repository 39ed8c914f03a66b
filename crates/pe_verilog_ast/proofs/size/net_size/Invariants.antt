use Rattle.std.proofs.Common.{◌≡◌, drop}
use Rattle.pe_verilog_ast.specs.Weights.{net_size}
use Rattle.pe_verilog_ast.proofs.size.net_size.Given as goal

abbrev pub invariant-loop-net : goal.invariant-loop-net
invariant-loop-net l = net_size l.nets l.name ≡ net_size (drop l.net-index l.nets) l.name
