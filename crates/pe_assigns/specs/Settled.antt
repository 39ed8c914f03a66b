-- What an RTL module of one-bit assignments means: its settled maps. A map gives each net a value, in the order of the
-- nets. It is settled where each net has what drives it under this same map.
use Rattle.std.specs.Prelude.{◌≡◌, ℕ, ◌<◌, Bool, cond, List, [], ◌∷◌, map, length, slice_index_or}
use Rattle.std.specs.Str.{bytes_eq}
use Rattle.pe_base.specs.declared.value.Val.{Val}
use Rattle.pe_base.specs.declared.value.Val.TheVariants.{Corrupt}
use Rattle.pe_base.specs.Values.{known_of}
use Rattle.pe_base.specs.Names.{has_name, place_of}
use Rattle.pe_nets.specs.Nets.{name_at, value_in}
use Rattle.pe_verilog_ast.specs.declared.expression.Ex.{Ex}
use Rattle.pe_verilog_ast.specs.declared.module.Module.{Module}
use Rattle.pe_assigns.specs.Logic.{logic_of, value_of}
use Rattle.pe_assigns.specs.Form.{input_names, assigns, nets}

-- the value that an input is given, 0 or 1
abbrev pub given_at : List Bool → ℕ → Val
given_at inputs k = slice_index_or (map known_of inputs) k Corrupt

-- what drives a net: an input by its place among the inputs, an assignment, or nothing
pub data Driver : Type 0 where
  given : ℕ → Driver
  assigned : Ex → Driver
  undriven : Driver

-- the first assignment to the net
abbrev pub assignment_to : List ℕ → List (List ℕ × Ex) → Driver
assignment_to name [] = undriven
assignment_to name (a ∷ more) = cond (bytes_eq a.0 name) (assigned a.1) (assignment_to name more)

abbrev pub driver_of : Module → List ℕ → Driver
driver_of m name = cond (has_name (input_names m) name) (given (place_of (input_names m) name)) (assignment_to name (assigns m))

-- what a driver gives, where the nets have these values; logic of a domain that is off gives corrupt
abbrev pub driven : Bool → List Bool → (List ℕ → Val) → Driver → Val
driven on inputs value (given k) = given_at inputs k
driven on inputs value (assigned e) = cond on (value_of value (logic_of e)) Corrupt
driven on inputs value undriven = Corrupt

-- the map is settled, for a domain that is on or off and these inputs, in port order
pub record IsRtlSettled (m : Module) (on : Bool) (inputs : List Bool) (values : List Val) : Type 0 where
  pub covers : length values ≡ length (nets m)
  pub each : (k : ℕ) → k < length (nets m) →
      slice_index_or values k Corrupt ≡ driven on inputs (value_in (nets m) values) (driver_of m (name_at (nets m) k))
