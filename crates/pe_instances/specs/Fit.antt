-- When a netlist fits an RTL module and the supplies of a power intent.
use Rattle.std.specs.Prelude.{ℕ, ◌==◌, Bool, not, ◌&&◌, Option, Some, None, List, map, filter, find, count_by}
use Rattle.std.specs.List.{list_all, list_any}
use Rattle.std.specs.Str.{bytes_eq}
use Rattle.pe_base.specs.Names.{has_name, all_among}
use Rattle.pe_verilog_ast.specs.declared.module.Module.{Module}
use Rattle.pe_assigns.specs.Form.{input_names, output_names, port_names}
use Rattle.pe_cells.specs.declared.cell.CellView.{CellView}
use Rattle.pe_instances.specs.declared.parts.Circuit.{Circuit}
use Rattle.pe_instances.specs.declared.parts.Netlist.{Netlist}
use Rattle.pe_instances.specs.declared.parts.SupplyPort.{SupplyPort}
use Rattle.pe_instances.specs.Wired.{is_wired}

abbrev pub names_in : List (List ℕ × ℕ) → List (List ℕ)
names_in names = map (λ n. n.0) names

abbrev pub number_in : Option (List ℕ × ℕ) → ℕ
number_in None = 0
number_in (Some n) = n.1

-- the number of the supply of a name; 0 where no supply has it
abbrev pub number_of : List (List ℕ × ℕ) → List ℕ → ℕ
number_of names name = number_in (find (λ n. bytes_eq n.0 name) names)

abbrev pub supply_port : List (List ℕ × ℕ) → List ℕ → SupplyPort
supply_port names name = record { name = name; supply = number_of names name }

-- the inputs that are not given a value
abbrev pub other_inputs : Netlist → List (List ℕ) → List (List ℕ)
other_inputs n given = filter (λ name. not (has_name given name)) n.inputs

-- the netlist, read against an RTL module, the names of supplies with their numbers, and views of cells
abbrev pub circuit_of : Netlist → Module → List (List ℕ × ℕ) → List (List ℕ) → List CellView → Circuit
circuit_of n m names cells views = record {
  netlist = n;
  given = input_names m;
  supplies = map (supply_port names) (other_inputs n (input_names m));
  cells = cells;
  views = views;
}

-- the port has the name of a supply, and that is a root
abbrev pub is_root_port : List (List ℕ × ℕ) → List ℕ → SupplyPort → Bool
is_root_port names roots port = has_name (names_in names) port.name && list_any (λ r. r == port.supply) roots

abbrev pub has_one_port : List SupplyPort → ℕ → Bool
has_one_port ports root = count_by (λ p. p.supply == root) ports == 1

-- the inputs besides those of the RTL are ports of roots, and there is one for each root
abbrev pub are_root_ports : List (List ℕ × ℕ) → List ℕ → List SupplyPort → Bool
are_root_ports names roots ports = list_all (is_root_port names roots) ports && list_all (has_one_port ports) roots

-- the inputs of the RTL are inputs of the netlist, and the outputs of both are the same
abbrev pub are_same_ports : Module → Netlist → Bool
are_same_ports m n = all_among n.inputs (input_names m) && (all_among n.outputs (output_names m) && all_among (output_names m) n.outputs)

-- no port of the RTL has the name of a supply
abbrev pub are_apart : Module → List (List ℕ × ℕ) → Bool
are_apart m names = list_all (λ port. not (has_name (names_in names) port)) (port_names m)

-- The circuit fits: the netlist's module has the RTL's name, its inputs are the RTL's and one port for each root, its outputs
-- are the RTL's, no port of the RTL has the name of a supply, and the circuit is wired.
abbrev pub is_fit : Module → List (List ℕ × ℕ) → List ℕ → Circuit → Bool
is_fit m names roots c =
    bytes_eq c.netlist.name m.name
    && (are_same_ports m c.netlist
    && (are_apart m names
    && (are_root_ports names roots c.supplies
    && is_wired c)))
