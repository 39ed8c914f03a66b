-- What a circuit means: its settled maps. A map gives each net a value, in the order of the nets. It is settled where each
-- net has what drives it under this same map.
use Rattle.std.specs.Prelude.{◌≡◌, ℕ, ◌<◌, Bool, false, cond, Option, Some, None, List, [], ◌∷◌, map, length, find, slice_index_or}
use Rattle.std.specs.Str.{bytes_eq}
use Rattle.pe_base.specs.declared.value.Val.{Val}
use Rattle.pe_base.specs.declared.value.Val.TheVariants.{Corrupt}
use Rattle.pe_base.specs.Names.{has_name, place_of}
use Rattle.pe_nets.specs.Nets.{name_at, value_in}
use Rattle.pe_assigns.specs.Settled.{given_at}
use Rattle.pe_cells.specs.declared.cell.CellView.{CellView}
use Rattle.pe_cells.specs.declared.cell.Pg.{Pg}
use Rattle.pe_cells.specs.declared.cell.Signal.{Signal}
use Rattle.pe_cells.specs.Output.{pin_values_of, output_of}
use Rattle.pe_instances.specs.declared.parts.Instance.{Instance}
use Rattle.pe_instances.specs.declared.parts.SupplyPort.{SupplyPort}
use Rattle.pe_instances.specs.declared.parts.Circuit.{Circuit}
use Rattle.pe_instances.specs.Form.{nets}
use Rattle.pe_instances.specs.Pins.{net_on, Drive, drives}

-- the value of a net; an open pin is corrupt
abbrev pub value_on : (List ℕ → Val) → Option (List ℕ) → Val
value_on value None = Corrupt
value_on value (Some net) = value net

-- what a signal pin reads as: an input as the net that it is on, while no function reads an output
abbrev pub signal_value : (List ℕ → Val) → Instance → Signal → Val
signal_value value i s = cond s.output Corrupt (value_on value (net_on i s.name))

abbrev pub state_at : List Bool → Option SupplyPort → Bool
state_at states None = false
state_at states (Some port) = slice_index_or states port.supply false

-- the state of the supply of a port, by its name; what is no such port is off, and so is an open pin
abbrev pub state_on : List SupplyPort → List Bool → Option (List ℕ) → Bool
state_on ports states None = false
state_on ports states (Some net) = state_at states (find (λ p. bytes_eq p.name net) ports)

-- whether a power or ground pin is on
abbrev pub pg_state : List SupplyPort → List Bool → Instance → Pg → Bool
pg_state ports states i pg = state_on ports states (net_on i pg.name)

-- what an output pin gives: what the cell says of it, over the values of the inputs and the states of power and ground pins
abbrev pub output_value : Circuit → List Bool → (List ℕ → Val) → Instance → CellView → Signal → Val
output_value c states value i v s =
    let ons = map (pg_state c.supplies states i) v.pgs in
    output_of s v.pgs (pin_values_of (map (signal_value value i) v.signals) v.pgs ons Corrupt Corrupt) ons

-- what drives a net: an input that is given a value by its place, an output pin, or nothing
pub data Driver : Type 0 where
  given : ℕ → Driver
  output : Drive → Driver
  undriven : Driver

-- the first output pin on the net
abbrev pub output_on : List ℕ → List Drive → Driver
output_on name [] = undriven
output_on name (d ∷ more) = cond (bytes_eq d.net name) (output d) (output_on name more)

abbrev pub driver_of : Circuit → List ℕ → Driver
driver_of c name = cond (has_name c.given name) (given (place_of c.given name)) (output_on name (drives c))

-- What a driver gives, where the nets have these values. What nothing drives is corrupt: so is the port of a supply, which
-- has no logic value.
abbrev pub driven : Circuit → List Bool → List Bool → (List ℕ → Val) → Driver → Val
driven c states inputs value (given k) = given_at inputs k
driven c states inputs value (output d) = output_value c states value d.instance d.view d.pin
driven c states inputs value undriven = Corrupt

-- the map is settled, for these states of the supplies, by their numbers, and these values of what is given one
pub record IsNetSettled (c : Circuit) (states : List Bool) (inputs : List Bool) (values : List Val) : Type 0 where
  pub covers : length values ≡ length (nets c.netlist)
  pub each : (k : ℕ) → k < length (nets c.netlist) →
      slice_index_or values k Corrupt ≡ driven c states inputs (value_in (nets c.netlist) values) (driver_of c (name_at (nets c.netlist) k))
