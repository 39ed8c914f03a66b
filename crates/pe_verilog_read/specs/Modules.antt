-- The modules and texts that derivations are.
use Rattle.std.specs.Prelude.{ℕ, Bool, true, false, List, [], ◌∷◌, None}
use Rattle.pe_grammar.specs.Derivation.{Derivation, pair, left, right, more}
use Rattle.pe_grammar.specs.Lists.{second_part}
use Rattle.pe_verilog_ast.specs.declared.item.Item.{Item}
use Rattle.pe_verilog_ast.specs.declared.module.HeadPort.{HeadPort}
use Rattle.pe_verilog_ast.specs.declared.module.HeadPort.TheVariants.{Named, Declared}
use Rattle.pe_verilog_ast.specs.declared.module.Module.{Module}
use Rattle.pe_verilog_ast.specs.declared.module.Param.{Param}
use Rattle.pe_verilog_ast.specs.declared.module.Port.{Port}
use Rattle.pe_verilog_ast.specs.declared.module.Source.{Source}
use Rattle.pe_verilog_read.specs.Expressions.{no_ex}
use Rattle.pe_verilog_read.specs.Items.{setting_of, port_of, plain_of, item_of}
use Rattle.pe_verilog_read.specs.Leaves.{name_of}
use Rattle.pe_verilog_read.specs.Lists.{list_by}
use Rattle.pe_verilog_read.specs.Targets.{optional_range_of}

-- a parameter of a head
abbrev pub head_parameter_of : (ℕ → List ℕ) → Derivation → Param
head_parameter_of w (pair word (pair range setting)) = record {
  range = optional_range_of w range;
  name = (setting_of w setting).0;
  value = (setting_of w setting).1;
}
head_parameter_of w _ = record { range = None; name = []; value = no_ex }

abbrev pub head_parameters_of : (ℕ → List ℕ) → Derivation → List Param
head_parameters_of w (left (pair hash (pair before (pair list behind)))) = list_by (head_parameter_of w) list
head_parameters_of w _ = []

abbrev pub renamed : Port → List ℕ → Port
renamed p name = record { dir = p.dir; kind = p.kind; range = p.range; name = name }

-- A port behind a declared one: it is declared itself, or a name that has what the one before it has.
abbrev pub head_port_of : (ℕ → List ℕ) → Derivation → Derivation → HeadPort
head_port_of w last (left d) = Declared (port_of w d)
head_port_of w last d = Declared (renamed (port_of w last) (name_of w d))

-- the last declaration
abbrev pub declared_by : Derivation → Derivation → Derivation
declared_by last (left d) = d
declared_by last _ = last

abbrev pub carried : (ℕ → List ℕ) → Derivation → Derivation → List HeadPort
carried w last (more d e) = head_port_of w last (second_part d) ∷ carried w (declared_by last (second_part d)) e
carried w last _ = []

abbrev pub head_ports_of : (ℕ → List ℕ) → Derivation → List HeadPort
head_ports_of w (pair first others) = Declared (port_of w first) ∷ carried w first others
head_ports_of w _ = []

abbrev pub named_port_of : (ℕ → List ℕ) → Derivation → HeadPort
named_port_of w d = Named (name_of w d)

-- names alone, or declarations
abbrev pub ports_of : (ℕ → List ℕ) → Derivation → List HeadPort
ports_of w (left d) = list_by (named_port_of w) d
ports_of w (right d) = head_ports_of w d
ports_of w _ = []

abbrev pub optional_ports_of : (ℕ → List ℕ) → Derivation → List HeadPort
optional_ports_of w (left d) = ports_of w d
optional_ports_of w _ = []

abbrev pub port_head_of : (ℕ → List ℕ) → Derivation → List HeadPort
port_head_of w (left (pair before (pair ports behind))) = optional_ports_of w ports
port_head_of w _ = []

abbrev pub item_by : (ℕ → List ℕ) → Bool → Derivation → Item
item_by w true d = plain_of w true d
item_by w false d = item_of w d

abbrev pub items_of : (ℕ → List ℕ) → Bool → Derivation → List Item
items_of w net (more d e) = item_by w net d ∷ items_of w net e
items_of w net _ = []

abbrev pub no_module : Module
no_module = record { name = []; params = []; ports = []; items = [] }

abbrev pub module_with : (ℕ → List ℕ) → Derivation → List Item → Module
module_with w (pair name (pair parameters (pair ports semi))) items = record {
  name = name_of w name;
  params = head_parameters_of w parameters;
  ports = port_head_of w ports;
  items = items;
}
module_with w _ items = no_module

abbrev pub module_of : (ℕ → List ℕ) → Bool → Derivation → Module
module_of w net (pair word (pair heading (pair items end))) = module_with w heading (items_of w net items)
module_of w net _ = no_module

abbrev pub modules_of : (ℕ → List ℕ) → Bool → Derivation → List Module
modules_of w net (more d e) = module_of w net d ∷ modules_of w net e
modules_of w net _ = []

abbrev pub source_of : (ℕ → List ℕ) → Bool → Derivation → Source
source_of w net d = record { modules = modules_of w net d }
