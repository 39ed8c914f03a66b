-- Gate netlists of one module: which trees are such, and what they have.
use Rattle.std.specs.Prelude.{ℕ, Bool, true, false, cond, not, ◌&&◌, Option, Some, None, is_some, is_none, List, [], ◌∷◌, ◌++◌, map}
use Rattle.std.specs.List.{list_all, flat_map}
use Rattle.pe_base.specs.Names.{has_name, are_distinct, all_among}
use Rattle.pe_verilog_ast.specs.declared.expression.Ex.{Ex, Ex-F, fold-Ex}
use Rattle.pe_verilog_ast.specs.declared.expression.Ex.TheOpen as layer
use Rattle.pe_verilog_ast.specs.declared.expression.Operand.{Operand-F}
use Rattle.pe_verilog_ast.specs.declared.expression.Select.{Select, Select-F, fold-Select}
use Rattle.pe_verilog_ast.specs.declared.module.Module.{Module}
use Rattle.pe_verilog_ast.specs.declared.module.Source.{Source}
use Rattle.pe_verilog_ast.specs.declared.item.Item.{Item}
use Rattle.pe_verilog_ast.specs.declared.item.Item.TheVariants as item
use Rattle.pe_verilog_ast.specs.declared.item.Pins.{Pins}
use Rattle.pe_verilog_ast.specs.declared.item.Pins.TheVariants.{Named, Placed}
use Rattle.pe_assigns.specs.Form.{is_plain_port, input_names, output_names, wires_in, is_some_of}
use Rattle.pe_instances.specs.declared.parts.Connection.{Connection}
use Rattle.pe_instances.specs.declared.parts.Instance.{Instance}
use Rattle.pe_instances.specs.declared.parts.Netlist.{Netlist}
use Rattle.pe_instances.specs.Pins.{net_list}

-- the whole net is meant
abbrev pub whole_layer : Select-F (Option (List ℕ)) Bool (Unit {0}) → Bool
whole_layer layer.Whole = true
whole_layer (layer.Bit index) = false
whole_layer (layer.Part left right) = false

abbrev pub net_layer : Ex-F (Option (List ℕ)) Bool (Unit {0}) → Option (List ℕ)
net_layer (layer.Net name whole) = cond whole (Some name) None
net_layer (layer.Number digits) = None
net_layer (layer.Join parts) = None
net_layer (layer.Repeat count parts) = None
net_layer (layer.Unary op e) = None
net_layer (layer.Chain first more) = None
net_layer (layer.Choose c a b) = None

abbrev pub operand_layer : Operand-F (Option (List ℕ)) Bool (Unit {0}) → Unit {0}
operand_layer o = tt

-- the net that an expression is, if it is a whole one
unfoldable pub net_of : Ex → Option (List ℕ)
net_of e = fold-Ex (Option (List ℕ)) Bool (Unit {0}) net_layer whole_layer operand_layer e

unfoldable pub is_whole : Select → Bool
is_whole s = fold-Select (Option (List ℕ)) Bool (Unit {0}) net_layer whole_layer operand_layer s

-- what a pin is given is a whole net, or nothing
abbrev pub is_net_or_open : Option Ex → Bool
is_net_or_open None = true
is_net_or_open (Some e) = is_some (net_of e)

abbrev pub net_or_open : Option Ex → Option (List ℕ)
net_or_open None = None
net_or_open (Some e) = net_of e

-- an instance is connected by named pins, each on a whole net or on nothing; `()` connects none
abbrev pub are_named : Option Pins → Bool
are_named None = true
are_named (Some (Named list)) = list_all (λ c. is_net_or_open c.1) list
are_named (Some (Placed list)) = false

abbrev pub connection_of : List ℕ × Option Ex → Connection
connection_of c = record { pin = c.0; net = net_or_open c.1 }

abbrev pub connections_of : Option Pins → List Connection
connections_of None = []
connections_of (Some (Named list)) = map connection_of list
connections_of (Some (Placed list)) = []

abbrev pub instance_of : List ℕ → List ℕ × Option Pins → Instance
instance_of cell i = record { cell = cell; connections = connections_of i.1 }

-- an item is `wire NAME;` or instances of one cell, without parameters
abbrev pub is_plain_item : Item → Bool
is_plain_item (item.Instances cell params list) = is_none params && list_all (λ i. are_named i.1) list
is_plain_item i = is_some_of (wires_in i)

abbrev pub instances_in : Item → List Instance
instances_in (item.Instances cell params list) = map (instance_of cell) list
instances_in _ = []

-- what a module has
abbrev pub netlist_of : Module → Netlist
netlist_of m = record {
  name = m.name;
  inputs = input_names m;
  outputs = output_names m;
  wires = flat_map wires_in m.items;
  instances = flat_map instances_in m.items;
}

-- what has to be driven
abbrev pub driven_names : Netlist → List (List ℕ)
driven_names n = n.outputs ++ n.wires

-- the nets: inputs, outputs and wires
abbrev pub nets : Netlist → List (List ℕ)
nets n = n.inputs ++ driven_names n

-- the pins that an instance connects
abbrev pub pins : Instance → List (List ℕ)
pins i = map (λ c. c.pin) i.connections

abbrev pub is_declared : List (List ℕ) → Option (List ℕ) → Bool
is_declared names None = true
is_declared names (Some net) = has_name names net

-- an instance connects a pin once, and to nets that are declared
abbrev pub is_named : List (List ℕ) → Instance → Bool
is_named names i = are_distinct (pins i) && list_all (λ c. is_declared names c.net) i.connections

-- all names of nets differ, and instances are so named
abbrev pub are_named_all : Netlist → Bool
are_named_all n = are_distinct (nets n) && list_all (is_named (nets n)) n.instances

-- the nets that the pins of an instance are on
abbrev pub nets_on : Instance → List (List ℕ)
nets_on i = flat_map (λ c. net_list c.net) i.connections

-- each output and wire has a pin on it: without one nothing drives it, whatever the cells are
abbrev pub are_connected : Netlist → Bool
are_connected n = all_among (flat_map nets_on n.instances) (driven_names n)

-- The module is of the form: no parameters; ports of one bit, declared in the head, inputs and outputs; wires of one bit and
-- instances of cells, connected by names to whole nets or to nothing; the names of nets differ, an instance connects a pin
-- once, the nets that it names are declared, and each output and wire has a pin on it.
abbrev pub is_form : Module → Bool
is_form m =
    not (is_some_of m.params)
    && (list_all is_plain_port m.ports
    && (list_all is_plain_item m.items
    && (are_named_all (netlist_of m)
    && are_connected (netlist_of m))))

-- the netlist of a text of one module, if it is of the form
abbrev pub netlist_in : List Module → Option Netlist
netlist_in (m ∷ []) = cond (is_form m) (Some (netlist_of m)) None
netlist_in _ = None

-- the text has one module, and it is of the form
abbrev pub is_net_form : Source → Bool
is_net_form source = is_some (netlist_in source.modules)

-- a list of names, and of further names those that are not there yet, in their order
abbrev pub with_new : List (List ℕ) → List (List ℕ) → List (List ℕ)
with_new names [] = names
with_new names (name ∷ more) = with_new (cond (has_name names name) names (names ++ name ∷ [])) more

-- the cells that instances name, each once, in the order of their first use
abbrev pub used_cells : Netlist → List (List ℕ)
used_cells n = with_new [] (map (λ i. i.cell) n.instances)
