-- The value of an output of a cell (Liberty: function, power_down_function, related_power_pin, related_ground_pin).
use Rattle.std.specs.Prelude.{ℕ, Bool, true, false, ◌&&◌, List, [], ◌∷◌, ◌++◌, map, Option, Some, None, slice_index_or}
use Rattle.std.specs.List.{zip}
use Rattle.pe_base.specs.declared.value.Val.{Val}
use Rattle.pe_base.specs.declared.value.Val.TheVariants.{Corrupt}
use Rattle.pe_base.specs.Registers.{kept_of}
use Rattle.pe_base.specs.Values.{exact_extension}
use Rattle.pe_bool_expr.specs.declared.expr.Expr.{Expr}
use Rattle.pe_bool_expr.specs.Functions.{holds}
use Rattle.pe_cells.specs.declared.cell.Pg.{Pg}
use Rattle.pe_cells.specs.declared.cell.Signal.{Signal}
use Rattle.pe_cells.specs.Power.{pg_value_of, is_powered_of, is_zero}

-- what the power and ground pins read as
abbrev pub pg_values_of : List Pg → List Bool → List Val
pg_values_of pgs ons = map (λ p. pg_value_of p.0.kind p.1) (zip pgs ons)

-- the values of all pins that a function may name, by their numbers: the signal pins, the power and ground pins, IQ, IQN
abbrev pub pin_values_of : List Val → List Pg → List Bool → Val → Val → List Val
pin_values_of signals pgs ons iq iqn = signals ++ (pg_values_of pgs ons ++ iq ∷ iqn ∷ [])

-- the value of a function, and corrupt without one
abbrev pub value_of : Option Expr → List Val → Val
value_of None values = Corrupt
value_of (Some e) values = exact_extension (holds e) values

-- a related pin, if there is one, is on
abbrev pub is_on_of : List Bool → Option ℕ → Bool
is_on_of ons None = true
is_on_of ons (Some place) = slice_index_or ons place false

-- the related pins are on, and where there is none, all primary pins
abbrev pub are_related_on : List Pg → List Bool → Option ℕ → Option ℕ → Bool
are_related_on pgs ons None None = is_powered_of pgs ons
are_related_on pgs ons (Some power) other = is_on_of ons (Some power) && is_on_of ons other
are_related_on pgs ons None (Some place) = is_on_of ons (Some place)

-- the output has power: its power-down function is a known 0, and without such a function its related pins are on
abbrev pub is_up_of : Signal → List Pg → List Val → List Bool → Option Expr → Bool
is_up_of pin pgs values ons (Some down) = is_zero (exact_extension (holds down) values)
is_up_of pin pgs values ons None = are_related_on pgs ons pin.power pin.ground

-- an output is its function over the values of the pins, and corrupt where it has no power
abbrev pub output_of : Signal → List Pg → List Val → List Bool → Val
output_of pin pgs values ons = kept_of (is_up_of pin pgs values ons pin.down) (value_of pin.function values)
