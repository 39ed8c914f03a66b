-- How an evaluation goes: it begins with inputs that have their values, and all other nets corrupt, and gives one net after
-- another what its output pin gives.
use Rattle.std.specs.Prelude.{ℕ, Bool, cond, List, [], ◌∷◌, map, slice_set}
use Rattle.pe_base.specs.declared.value.Val.{Val}
use Rattle.pe_base.specs.declared.value.Val.TheVariants.{Corrupt}
use Rattle.pe_base.specs.Names.{has_name, place_of}
use Rattle.pe_nets.specs.Nets.{value_in}
use Rattle.pe_assigns.specs.Settled.{given_at}
use Rattle.pe_instances.specs.declared.parts.Circuit.{Circuit}
use Rattle.pe_instances.specs.Form.{nets}
use Rattle.pe_instances.specs.Pins.{Drive}
use Rattle.pe_instances.specs.Settled.{output_value}

-- the value from which a net begins
abbrev pub first_value : List (List ℕ) → List Bool → List ℕ → Val
first_value given inputs name = cond (has_name given name) (given_at inputs (place_of given name)) Corrupt

abbrev pub start_of : Circuit → List Bool → List Val
start_of c inputs = map (first_value c.given inputs) (nets c.netlist)

abbrev pub written : Circuit → List (List ℕ) → List Bool → List Val → List Drive → List Val
written c names states values [] = values
written c names states values (d ∷ more) =
    written c names states (slice_set values (place_of names d.net) (output_value c states (value_in names values) d.instance d.view d.pin)) more
