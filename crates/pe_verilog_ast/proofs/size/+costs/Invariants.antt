use Rattle.std.proofs.Common.{◌≡◌, ◌+◌, ◌-◌, ◌^◌, ◌≤◌, drop}
use Rattle.std.specs.Prelude.{map}
use Rattle.pe_verilog_ast.specs.Weights.{Sized, capped, total_size, total_weight, chained, sized, step}
use Rattle.pe_verilog_ast.specs.Costs.{IsCost}
use Rattle.pe_verilog_ast.proofs.Steps.{Follows}
use Rattle.pe_verilog_ast.proofs.size.+costs.Given as goal

abbrev pub invariant-parts_cost-loop-part : goal.invariant-parts_cost-loop-part
invariant-parts_cost-loop-part l =
    (capped (l.size + total_size (map (sized l.nets) (drop l.part-index l.parts))) ≡ capped (total_size (map (sized l.nets) l.parts)))
    × (capped (l.weight + total_weight (map (sized l.nets) (drop l.part-index l.parts))) ≡ capped (total_weight (map (sized l.nets) l.parts)))
    × (l.size ≤ 2 ^ 64 - 1)
    × (l.weight ≤ 2 ^ 64 - 1)

abbrev pub invariant-chain_cost-loop-operand : goal.invariant-chain_cost-loop-operand
invariant-chain_cost-loop-operand l =
    (x : Sized) → IsCost x l.fn.first → Follows l.nets (drop l.operand-index l.more) (chained x (map (step l.nets) l.more)) l.all
