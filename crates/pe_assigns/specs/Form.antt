-- RTL modules of one-bit assignments: which trees are such, and what they have.
use Rattle.std.specs.Prelude.{ℕ, Bool, true, false, cond, not, ◌&&◌, ◌||◌, Option, Some, None, is_none, List, [], ◌∷◌, ◌++◌, map, filter}
use Rattle.std.specs.List.{list_all, flat_map}
use Rattle.pe_base.specs.Names.{are_distinct, all_among}
use Rattle.pe_verilog_ast.specs.declared.expression.Ex.{Ex}
use Rattle.pe_verilog_ast.specs.declared.target.Target.{Target, Target-F, fold-Target}
use Rattle.pe_verilog_ast.specs.declared.target.Target.TheOpen as layer
use Rattle.pe_verilog_ast.specs.declared.module.Dir.{Dir}
use Rattle.pe_verilog_ast.specs.declared.module.Dir.TheVariants.{Input, Output, Inout}
use Rattle.pe_verilog_ast.specs.declared.module.NetKind.{NetKind}
use Rattle.pe_verilog_ast.specs.declared.module.NetKind.TheVariants.{Wire, Reg}
use Rattle.pe_verilog_ast.specs.declared.module.HeadPort.{HeadPort}
use Rattle.pe_verilog_ast.specs.declared.module.HeadPort.TheVariants.{Named, Declared}
use Rattle.pe_verilog_ast.specs.declared.module.Port.{Port}
use Rattle.pe_verilog_ast.specs.declared.module.Module.{Module}
use Rattle.pe_verilog_ast.specs.declared.module.Source.{Source}
use Rattle.pe_verilog_ast.specs.declared.item.Item.{Item}
use Rattle.pe_verilog_ast.specs.declared.item.Item.TheVariants as item
use Rattle.pe_assigns.specs.Logic.{logic_of, is_whole, is_read}

abbrev pub is_input : Dir → Bool
is_input Input = true
is_input Output = false
is_input Inout = false

abbrev pub is_output : Dir → Bool
is_output Input = false
is_output Output = true
is_output Inout = false

-- one bit of a direction, with no kind
abbrev pub is_plain : Port → Bool
is_plain p = (is_input p.dir || is_output p.dir) && (is_none p.kind && is_none p.range)

-- a port of the head is declared there
abbrev pub is_plain_port : HeadPort → Bool
is_plain_port (Named n) = false
is_plain_port (Declared p) = is_plain p

abbrev pub port_name : HeadPort → List ℕ
port_name (Named n) = n
port_name (Declared p) = p.name

abbrev pub is_input_port : HeadPort → Bool
is_input_port (Named n) = false
is_input_port (Declared p) = is_input p.dir

abbrev pub is_output_port : HeadPort → Bool
is_output_port (Named n) = false
is_output_port (Declared p) = is_output p.dir

-- names of ports, in their order
abbrev pub port_names : Module → List (List ℕ)
port_names m = map port_name m.ports

abbrev pub input_names : Module → List (List ℕ)
input_names m = map port_name (filter is_input_port m.ports)

abbrev pub output_names : Module → List (List ℕ)
output_names m = map port_name (filter is_output_port m.ports)

abbrev pub is_wire : NetKind → Bool
is_wire Wire = true
is_wire Reg = false

-- the one net of a list, without a value
abbrev pub bare : List (List ℕ × Option Ex) → List (List ℕ)
bare (n ∷ []) = cond (is_none n.1) (n.0 ∷ []) []
bare _ = []

-- the net that an item declares: `wire NAME;`
abbrev pub wires_in : Item → List (List ℕ)
wires_in (item.Net kind range nets) = cond (is_wire kind && is_none range) (bare nets) []
wires_in _ = []

abbrev pub target_layer : Target-F (Option (List ℕ)) → Option (List ℕ)
target_layer (layer.Net name select) = cond (is_whole select) (Some name) None
target_layer (layer.Join ts) = None

-- the net that a target is, if it is a whole one
unfoldable pub target_of : Target → Option (List ℕ)
target_of t = fold-Target (Option (List ℕ)) target_layer t

abbrev pub assign_to : Option (List ℕ) → Ex → List (List ℕ × Ex)
assign_to None e = []
assign_to (Some name) e = (name, e) ∷ []

-- the one assignment of a list, to a whole net
abbrev pub lone : List (Target × Ex) → List (List ℕ × Ex)
lone (a ∷ []) = assign_to (target_of a.0) a.1
lone _ = []

-- the assignment that an item is: `assign NAME = EX;`
abbrev pub assigns_in : Item → List (List ℕ × Ex)
assigns_in (item.Assign list) = lone list
assigns_in _ = []

abbrev pub is_some_of : {A : Type 0} → List A → Bool
is_some_of [] = false
is_some_of (x ∷ xs) = true

-- a wire or an assignment
abbrev pub is_plain_item : Item → Bool
is_plain_item i = is_some_of (wires_in i) || is_some_of (assigns_in i)

-- the wires, and the assignments, in the order of the text
abbrev pub wires : Module → List (List ℕ)
wires m = flat_map wires_in m.items

abbrev pub assigns : Module → List (List ℕ × Ex)
assigns m = flat_map assigns_in m.items

abbrev pub targets : Module → List (List ℕ)
targets m = map (λ a. a.0) (assigns m)

-- the nets: ports, then wires
abbrev pub nets : Module → List (List ℕ)
nets m = port_names m ++ wires m

-- what has to be driven
abbrev pub driven_names : Module → List (List ℕ)
driven_names m = output_names m ++ wires m

-- each assignment is of known nets, and targets of those before it, by ~, & and | alone
abbrev pub are_ordered : List (List ℕ) → List (List ℕ × Ex) → Bool
are_ordered known [] = true
are_ordered known (a ∷ more) = is_read known (logic_of a.1) && are_ordered (a.0 ∷ known) more

-- each output and wire is assigned once, and nothing else is
abbrev pub is_driven_once : Module → Bool
is_driven_once m = are_distinct (targets m) && (all_among (targets m) (driven_names m) && all_among (driven_names m) (targets m))

-- The module is of the form: ports of one bit and wires of one bit, of different names; each output and wire is assigned
-- once, and nothing else is; the expressions are of whole nets by ~, & and |, and read inputs and what was assigned before.
abbrev pub is_form : Module → Bool
is_form m =
    not (is_some_of m.params)
    && (list_all is_plain_port m.ports
    && (list_all is_plain_item m.items
    && (are_distinct (nets m)
    && (is_driven_once m
    && are_ordered (input_names m) (assigns m)))))

abbrev pub is_form_alone : List Module → Bool
is_form_alone (m ∷ []) = is_form m
is_form_alone _ = false

-- the text has one module, and it is of the form
abbrev pub is_rtl_form : Source → Bool
is_rtl_form source = is_form_alone source.modules
