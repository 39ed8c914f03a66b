-- Operators on two bits, as the code names them.
use Rattle.std.specs.Prelude.{ℕ, Bool, true, false, List}
use Rattle.pe_base.specs.declared.value.Val.{Val}
use Rattle.pe_base.specs.Values.{pick_of}
use Rattle.pe_base.specs.Operators.{not_of, and_of, or_of, xor_of, xnor_of}
use Rattle.pe_graph.specs.declared.graph.Node.{Node}
use Rattle.pe_rail_ops.specs.declared.gate.Gate.{Gate}
use Rattle.pe_rail_ops.specs.declared.gate.Gate.TheVariants.{And, Or, Xor, Xnor, Pick}
use Rattle.pe_rail_ops.specs.Rails.{rail_in, IsRail}

abbrev pub gate_in : (ℕ → Bool) → List Node → Gate → Val → Val → Val
gate_in v nodes And = and_of
gate_in v nodes Or = or_of
gate_in v nodes Xor = xor_of
gate_in v nodes Xnor = xnor_of
gate_in v nodes (Pick control) = pick_of (rail_in v nodes control)

-- the rail that it picks by, if any, is of the graph
abbrev pub IsGate : List Node → Gate → Type 0
IsGate nodes (Pick control) = IsRail nodes control
IsGate nodes _ = Unit {0}

-- the complement, if it is asked for
abbrev pub turned : Bool → Val → Val
turned true x = not_of x
turned false x = x
