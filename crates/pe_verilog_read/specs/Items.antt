-- The items of modules that derivations are. Where `net` holds they are a netlist's.
use Rattle.std.specs.Prelude.{ℕ, ◌==◌, Bool, true, false, List, [], map, Option, Some, None, if◌then◌else◌}
use Rattle.pe_grammar.specs.Derivation.{Derivation, pair, left, right}
use Rattle.pe_grammar.specs.Lists.{seconds}
use Rattle.pe_verilog_ast.specs.declared.expression.Ex.{Ex}
use Rattle.pe_verilog_ast.specs.declared.item.Item.{Item}
use Rattle.pe_verilog_ast.specs.declared.item.Item.TheVariants as item
use Rattle.pe_verilog_ast.specs.declared.item.Pins.{Pins}
use Rattle.pe_verilog_ast.specs.declared.item.Pins.TheVariants.{Named, Placed}
use Rattle.pe_verilog_ast.specs.declared.module.Dir.{Dir}
use Rattle.pe_verilog_ast.specs.declared.module.Dir.TheVariants.{Input, Output, Inout}
use Rattle.pe_verilog_ast.specs.declared.module.NetKind.{NetKind}
use Rattle.pe_verilog_ast.specs.declared.module.NetKind.TheVariants.{Wire, Reg}
use Rattle.pe_verilog_ast.specs.declared.module.Port.{Port}
use Rattle.pe_verilog_ast.specs.declared.target.Target.{Target}
use Rattle.pe_verilog_ast.specs.declared.target.Target.TheVariants.{Join}
use Rattle.pe_verilog_read.specs.Expressions.{ex_of, list_of, no_ex}
use Rattle.pe_verilog_read.specs.Leaves.{token_of, name_of}
use Rattle.pe_verilog_read.specs.Lists.{list_by}
use Rattle.pe_verilog_read.specs.Statements.{events_of, statement_of}
use Rattle.pe_verilog_read.specs.Targets.{target_of, optional_range_of, connected_of, connected_list_of}
use Rattle.pe_verilog_read.specs.declared.verilog_table.TheConstants as is

-- what is assigned or connected
abbrev pub value_of : (ℕ → List ℕ) → Bool → Derivation → Ex
value_of w true d = connected_of w d
value_of w false d = ex_of w d

abbrev pub values_of : (ℕ → List ℕ) → Bool → Derivation → List Ex
values_of w true d = connected_list_of w d
values_of w false d = list_of w d

-- a parameter and its value
abbrev pub setting_of : (ℕ → List ℕ) → Derivation → List ℕ × Ex
setting_of w (pair name (pair equals value)) = (name_of w name, ex_of w value)
setting_of w _ = ([], no_ex)

-- what drives a wire from its declaration on
abbrev pub initial_of : (ℕ → List ℕ) → Bool → Derivation → Option Ex
initial_of w net (left (pair equals value)) = Some (value_of w net value)
initial_of w net _ = None

abbrev pub wire_of : (ℕ → List ℕ) → Bool → Derivation → List ℕ × Option Ex
wire_of w net (pair name initial) = (name_of w name, initial_of w net initial)
wire_of w net _ = ([], None)

abbrev pub reg_of : (ℕ → List ℕ) → Derivation → List ℕ × Option Ex
reg_of w d = (name_of w d, None)

abbrev pub assign_of : (ℕ → List ℕ) → Bool → Derivation → Target × Ex
assign_of w net (pair target (pair equals value)) = (target_of w target, value_of w net value)
assign_of w net _ = (Join [], no_ex)

-- what a pin is connected to
abbrev pub connection_of : (ℕ → List ℕ) → Bool → Derivation → Option Ex
connection_of w net (left value) = Some (value_of w net value)
connection_of w net _ = None

abbrev pub pin_of : (ℕ → List ℕ) → Bool → Derivation → List ℕ × Option Ex
pin_of w net (pair dot (pair name (pair before (pair value behind)))) = (name_of w name, connection_of w net value)
pin_of w net _ = ([], None)

abbrev pub pins_of : (ℕ → List ℕ) → Bool → Derivation → Pins
pins_of w net (left d) = Named (list_by (pin_of w net) d)
pins_of w net (right d) = Placed (values_of w net d)
pins_of w net _ = Placed []

abbrev pub optional_pins_of : (ℕ → List ℕ) → Bool → Derivation → Option Pins
optional_pins_of w net (left d) = Some (pins_of w net d)
optional_pins_of w net _ = None

abbrev pub instance_of : (ℕ → List ℕ) → Bool → Derivation → List ℕ × Option Pins
instance_of w net (pair name (pair before (pair pins behind))) = (name_of w name, optional_pins_of w net pins)
instance_of w net _ = ([], None)

-- values of parameters, of which no netlist is restricted
abbrev pub parameter_pins_of : (ℕ → List ℕ) → Derivation → Pins
parameter_pins_of w (pair hash (pair before (pair pins behind))) = pins_of w false pins
parameter_pins_of w _ = Placed []

abbrev pub optional_parameter_pins_of : (ℕ → List ℕ) → Derivation → Option Pins
optional_parameter_pins_of w (left d) = Some (parameter_pins_of w d)
optional_parameter_pins_of w _ = None

abbrev pub direction_at : ℕ → Dir
direction_at k = if k == is.INPUT then Input else if k == is.OUTPUT then Output else Inout

abbrev pub kind_at : ℕ → NetKind
kind_at k = if k == is.WIRE then Wire else Reg

abbrev pub kind_of : Derivation → Option NetKind
kind_of (left d) = Some (kind_at (token_of d).kind)
kind_of _ = None

abbrev pub no_port : Port
no_port = record { dir = Input; kind = None; range = None; name = [] }

abbrev pub port_of : (ℕ → List ℕ) → Derivation → Port
port_of w (pair direction (pair kind (pair range name))) = record {
  dir = direction_at (token_of direction).kind;
  kind = kind_of kind;
  range = optional_range_of w range;
  name = name_of w name;
}
port_of w _ = no_port

abbrev pub no_item : Item
no_item = item.Assign []

-- further names behind commas
abbrev pub more_names_of : (ℕ → List ℕ) → Derivation → List (List ℕ)
more_names_of w d = map (name_of w) (seconds d)

abbrev pub port_item_of : (ℕ → List ℕ) → Derivation → Item
port_item_of w (pair port (pair names semi)) = item.Port (port_of w port) (more_names_of w names)
port_item_of w _ = no_item

abbrev pub regs_of : (ℕ → List ℕ) → Derivation → Item
regs_of w (pair word (pair range (pair names semi))) = item.Net Reg (optional_range_of w range) (list_by (reg_of w) names)
regs_of w _ = no_item

abbrev pub wires_of : (ℕ → List ℕ) → Bool → Derivation → Item
wires_of w net (pair word (pair range (pair wires semi))) = item.Net Wire (optional_range_of w range) (list_by (wire_of w net) wires)
wires_of w net _ = no_item

abbrev pub is_local : ℕ → Bool
is_local k = k == is.LOCALPARAM

abbrev pub parameters_of : (ℕ → List ℕ) → Derivation → Item
parameters_of w (pair word (pair range (pair settings semi))) =
    item.Param (is_local (token_of word).kind) (optional_range_of w range) (list_by (setting_of w) settings)
parameters_of w _ = no_item

abbrev pub assigns_of : (ℕ → List ℕ) → Bool → Derivation → Item
assigns_of w net (pair word (pair assigns semi)) = item.Assign (list_by (assign_of w net) assigns)
assigns_of w net _ = no_item

abbrev pub always_of : (ℕ → List ℕ) → Derivation → Item
always_of w (pair word (pair at (pair events body))) = item.Always (events_of w events) (statement_of w body)
always_of w _ = no_item

abbrev pub instances_of : (ℕ → List ℕ) → Bool → Derivation → Item
instances_of w net (pair name (pair parameters (pair instances semi))) =
    item.Instances (name_of w name) (optional_parameter_pins_of w parameters) (list_by (instance_of w net) instances)
instances_of w net _ = no_item

-- an item that netlists have too
abbrev pub plain_of : (ℕ → List ℕ) → Bool → Derivation → Item
plain_of w net (left d) = port_item_of w d
plain_of w net (right (left d)) = wires_of w net d
plain_of w net (right (right (left d))) = assigns_of w net d
plain_of w net (right (right (right d))) = instances_of w net d
plain_of w net _ = no_item

abbrev pub item_of : (ℕ → List ℕ) → Derivation → Item
item_of w (left d) = plain_of w false d
item_of w (right (left d)) = regs_of w d
item_of w (right (right (left d))) = parameters_of w d
item_of w (right (right (right d))) = always_of w d
item_of w _ = no_item
