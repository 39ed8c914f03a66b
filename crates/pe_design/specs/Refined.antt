-- When the netlist of a design is equivalent to its RTL under its power intent.
use Rattle.std.specs.Prelude.{◌≡◌, ℕ, Bool, true, List, [], length}
use Rattle.std.specs.List.{Contains}
use Rattle.pe_base.specs.declared.value.Val.{Val}
use Rattle.pe_base.specs.Values.{Refines}
use Rattle.pe_nets.specs.Nets.{value_in}
use Rattle.pe_supply.specs.declared.supplies.Row.{Row}
use Rattle.pe_supply.specs.Rows.{row_holds}
use Rattle.pe_supply.specs.States.{IsSettled}
use Rattle.pe_assigns.specs.Form.{input_names, nets, output_names}
use Rattle.pe_assigns.specs.Settled.{IsRtlSettled}
use Rattle.pe_instances.specs.Form.{nets as net_nets}
use Rattle.pe_instances.specs.Settled.{IsNetSettled}
use Rattle.pe_design.specs.declared.design.Design.{Design}
use Rattle.pe_design.specs.Power.{domain_on}

-- One cycle: the roots have these states and the RTL's inputs these bits; the supplies have their states, and both sides are
-- settled.
pub record IsCycle (d : Design) (roots inputs states : List Bool) (rtl_map net_map : List Val) : Type 0 where
  pub roots_long : length roots ≡ length d.supplies.roots
  pub inputs_long : length inputs ≡ length (input_names d.rtl)
  pub supplies : IsSettled d.supplies roots [] states
  pub rtl : IsRtlSettled d.rtl (domain_on d states) inputs rtl_map
  pub net : IsNetSettled d.circuit states inputs net_map

-- the value of an output of the RTL, and of the netlist
abbrev pub rtl_value : Design → List Val → List ℕ → Val
rtl_value d rtl_map output = value_in (nets d.rtl) rtl_map output

abbrev pub net_value : Design → List Val → List ℕ → Val
net_value d net_map output = value_in (net_nets d.circuit.netlist) net_map output

-- in every cycle in which some row of the power state table holds, each output of the netlist has the RTL's value wherever
-- that is not corrupt
pub record Refined (d : Design) : Type 0 where
  pub each : (row : Row) (output : List ℕ) (roots inputs states : List Bool) (rtl_map net_map : List Val) →
      Contains d.supplies.rows row → Contains (output_names d.rtl) output → IsCycle d roots inputs states rtl_map net_map →
      row_holds row.levels d.supplies.table states ≡ true →
      Refines (net_value d net_map output) (rtl_value d rtl_map output)

-- some cycle shows that the netlist is not equivalent: a row holds in it, and an output does not refine
pub record Replays (d : Design) : Type 0 where
  pub row : Row
  pub output : List ℕ
  pub roots : List Bool
  pub inputs : List Bool
  pub states : List Bool
  pub rtl_map : List Val
  pub net_map : List Val
  pub in_rows : Contains d.supplies.rows row
  pub in_outputs : Contains (output_names d.rtl) output
  pub cycle : IsCycle d roots inputs states rtl_map net_map
  pub holds : row_holds row.levels d.supplies.table states ≡ true
  pub differs : Refines (net_value d net_map output) (rtl_value d rtl_map output) → ⊥
