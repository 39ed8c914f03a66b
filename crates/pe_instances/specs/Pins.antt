-- The pins of an instance: on which nets they are, and which nets a circuit's cells drive.
use Rattle.std.specs.Prelude.{ℕ, cond, Option, Some, None, List, [], ◌∷◌, find, slice_get}
use Rattle.std.specs.List.{flat_map}
use Rattle.std.specs.Str.{bytes_eq}
use Rattle.pe_base.specs.Names.{place_of}
use Rattle.pe_cells.specs.declared.cell.CellView.{CellView}
use Rattle.pe_cells.specs.declared.cell.Signal.{Signal}
use Rattle.pe_instances.specs.declared.parts.Connection.{Connection}
use Rattle.pe_instances.specs.declared.parts.Instance.{Instance}
use Rattle.pe_instances.specs.declared.parts.Circuit.{Circuit}

abbrev pub net_in : Option Connection → Option (List ℕ)
net_in None = None
net_in (Some c) = c.net

-- the net that a pin is on; an open pin, and one that is not connected, is on none
abbrev pub net_on : Instance → List ℕ → Option (List ℕ)
net_on i pin = net_in (find (λ c. bytes_eq c.pin pin) i.connections)

-- the view of a cell
abbrev pub view_of : Circuit → List ℕ → Option CellView
view_of c cell = slice_get c.views (place_of c.cells cell)

-- the net that a pin drives: an output the one that it is on
abbrev pub net_driven : Instance → Signal → Option (List ℕ)
net_driven i s = cond s.output (net_on i s.name) None

abbrev pub net_list : Option (List ℕ) → List (List ℕ)
net_list None = []
net_list (Some net) = net ∷ []

-- the nets that an instance drives, in the order of the cell's pins
abbrev pub nets_driven : Instance → Option CellView → List (List ℕ)
nets_driven i None = []
nets_driven i (Some v) = flat_map (λ s. net_list (net_driven i s)) v.signals

-- the nets that cells drive, in the order of the instances
abbrev pub targets : Circuit → List (List ℕ)
targets c = flat_map (λ i. nets_driven i (view_of c i.cell)) c.netlist.instances

-- a net, and the output pin that drives it
pub record Drive : Type 0 where
  pub net : List ℕ
  pub instance : Instance
  pub view : CellView
  pub pin : Signal

abbrev pub drives_net : Instance → CellView → Signal → Option (List ℕ) → List Drive
drives_net i v s None = []
drives_net i v s (Some net) = record { net = net; instance = i; view = v; pin = s } ∷ []

abbrev pub drives_by : Instance → CellView → Signal → List Drive
drives_by i v s = drives_net i v s (net_driven i s)

-- the nets that an instance drives, with their pins
abbrev pub drives_of : Instance → Option CellView → List Drive
drives_of i None = []
drives_of i (Some v) = flat_map (drives_by i v) v.signals

-- the same of instances, in their order
abbrev pub drives_in : Circuit → List Instance → List Drive
drives_in c is = flat_map (λ i. drives_of i (view_of c i.cell)) is

abbrev pub drives : Circuit → List Drive
drives c = drives_in c c.netlist.instances
