use Rattle.std.proofs.Common.{◌≡◌, ◌+◌, ◌-◌, ◌*◌, ◌^◌, ◌≤◌, drop}
use Rattle.pe_verilog_ast.specs.Weights.{capped, number_of}
use Rattle.pe_verilog_ast.proofs.size.number_of.Given as goal

abbrev pub invariant-loop-i : goal.invariant-loop-i
invariant-loop-i l = (capped (l.value + l.power * number_of (drop l.i l.digits)) ≡ capped (number_of l.digits)) × (l.value ≤ 2 ^ 64 - 1)
