-- Which answer five texts give: a design, or the first refusal. Each point says of what was read before it, and of the texts,
-- whether they go on to the next point; the first point stands last here.
use Rattle.std.specs.Prelude.{◌≡◌, ◌≢◌, ℕ, ◌+◌, ◌<◌, ◌≤◌, Bool, false, cond, not, ◌&&◌, List, [], ◌∷◌, length, Option, Some, None, Ok, Err}
use Rattle.std.specs.Option.{option_map_or}
use Rattle.std.specs.Str.{bytes_eq}
use Rattle.pe_base.specs.declared.text.Texts.{Texts}
use Rattle.pe_text.specs.declared.fault.ReadFault.{ReadFault}
use Rattle.pe_text.specs.declared.fault.ReadFault.TheVariants.{Memory}
use Rattle.pe_text.specs.declared.language.Lang.TheVariants as lang
use Rattle.pe_verilog_ast.specs.declared.module.Module.{Module}
use Rattle.pe_verilog_ast.specs.declared.module.Source.{Source}
use Rattle.pe_verilog_read.specs.Reading.{IsVerilog, IsVerilogFault}
use Rattle.pe_upf_read.specs.declared.intent.Intent.{Intent}
use Rattle.pe_upf_read.specs.Spelling.{IsUpf, IsUpfFault}
use Rattle.pe_liberty_read.specs.declared.tree.Group.{Group}
use Rattle.pe_liberty_read.specs.Reading.{IsLiberty, IsReadFault}
use Rattle.pe_compare.specs.declared.map.MapFile.{MapFile}
use Rattle.pe_compare.specs.MapReading.{IsMap, IsMapFault}
use Rattle.pe_supply.specs.declared.fault.SupplyFault.{SupplyFault}
use Rattle.pe_supply.specs.declared.supplies.Supplies.{Supplies}
use Rattle.pe_supply.specs.Building.{IsBuilt, IsOutcome}
use Rattle.pe_supply.specs.Steps.{told}
use Rattle.pe_assigns.specs.Form.{is_form, is_some_of, input_names}
use Rattle.pe_cells.specs.declared.cell.CellView.{CellView}
use Rattle.pe_cells.specs.declared.fault.CellFault.{CellFault}
use Rattle.pe_intent.specs.declared.function.Function.TheVariants as function
use Rattle.pe_intent.specs.Domain.{top_of, has_top_alone, is_one_domain, primary_supply}
use Rattle.pe_instances.specs.declared.parts.Circuit.{Circuit}
use Rattle.pe_instances.specs.declared.parts.Netlist.{Netlist}
use Rattle.pe_instances.specs.Form.{netlist_in, used_cells}
use Rattle.pe_instances.specs.Fit.{circuit_of, is_fit}
use Rattle.pe_design.specs.declared.design.Design.{Design}
use Rattle.pe_front.specs.declared.fault.CheckFault.TheVariants.{Refused}
use Rattle.pe_front.specs.declared.fault.Fault.TheVariants.{Read, Cell, Supply, TooWide}
use Rattle.pe_front.specs.declared.fault.Part.{Part}
use Rattle.pe_front.specs.declared.fault.Part.TheVariants.{Rtl, Upf, Lib, Net, Map}
use Rattle.pe_front.specs.Points.{Answer, FoundThen, TakenThen, BuiltThen}
use Rattle.pe_front.specs.Views.{AreViews, IsFirstRefused}

-- The text of a part is read as what it spells, or is refused for its fault.
abbrev pub IsUnread : (ReadFault → Type 0) → ReadFault → Type 0
IsUnread IsFault f = (f ≢ Memory) × IsFault f

abbrev pub ReadThen : (A : Type 0) → (A → Type 0) → (ReadFault → Type 0) → Part → (A → Answer → Type 0) → Answer → Type 0
ReadThen A Spells IsFault part Next answer = FoundThen A ReadFault Spells (IsUnread IsFault) (λ f. Refused part (Read f)) Next answer

-- how many bits an assignment has: one for each root and each input of the RTL
abbrev pub width : Design → ℕ
width d = length d.supplies.roots + length (input_names d.rtl)

abbrev pub IsNarrow : Design → Type 0
IsNarrow d = width d ≤ 16

-- the last point: no more assignments are tried than of 16 bits
pub data FromWidth (d : Design) (answer : Answer) : Type 0 where
  narrow : IsNarrow d → answer ≡ Ok d → FromWidth d answer
  wide : 16 < width d → answer ≡ Err (Refused Rtl (TooWide (told (width d)))) → FromWidth d answer

-- the design of these parts
pub record IsDesignOf (m : Module) (intent : Intent) (s : Supplies) (c : Circuit) (d : Design) : Type 0 where
  pub rtl : d.rtl ≡ m
  pub supplies : d.supplies ≡ s
  pub power_supply : d.power ≡ primary_supply intent.commands s.names function.Power
  pub ground_supply : d.ground ≡ primary_supply intent.commands s.names function.Ground
  pub circuit : d.circuit ≡ c

-- some design of these parts is that of the last point
pub record FromDesign (m : Module) (intent : Intent) (s : Supplies) (c : Circuit) (answer : Answer) : Type 0 where
  pub design : Design
  pub parts : IsDesignOf m intent s c design
  pub next : FromWidth design answer

-- the intent's top is the RTL module, and its domain is of that alone; no switch stands among the supplies; and the netlist
-- fits the RTL and the supplies
abbrev pub is_fitting : Module → Intent → Supplies → Circuit → Bool
is_fitting m intent s c =
    option_map_or (λ top. bytes_eq top m.name) (top_of intent.commands) false
    && (has_top_alone intent
    && (not (is_some_of s.switches)
    && is_fit m s.names s.roots c))

unfoldable pub FromFit : Module → Intent → Netlist → List CellView → Supplies → Answer → Type 0
FromFit m intent n views s answer =
    let c = circuit_of n m s.names (used_cells n) views in
    BuiltThen (is_fitting m intent s c) Net (FromDesign m intent s c) answer

-- the supplies of the intent
unfoldable pub FromSupplies : Module → Intent → Netlist → List CellView → Answer → Type 0
FromSupplies m intent n views answer =
    FoundThen Supplies SupplyFault (IsBuilt intent) (λ f. IsOutcome intent (Err f)) (λ f. Refused Upf (Supply f)) (FromFit m intent n views) answer

-- the cells that the netlist uses, in the order of their first use
unfoldable pub FromViews : Module → Intent → Group → Netlist → Answer → Type 0
FromViews m intent library n answer =
    FoundThen (List CellView) CellFault (AreViews library (used_cells n)) (IsFirstRefused library (used_cells n)) (λ f. Refused Lib (Cell f)) (FromSupplies m intent n) answer

-- the map, of which only one without lines is built
unfoldable pub FromMap : Texts → Module → Intent → Group → Netlist → Answer → Type 0
FromMap t m intent library n answer =
    ReadThen MapFile (IsMap t.map) (IsMapFault t.map) Map (λ map. BuiltThen (not (is_some_of map.lines)) Map (FromViews m intent library n)) answer

-- the netlist
unfoldable pub FromNet : Texts → Module → Intent → Group → Answer → Type 0
FromNet t m intent library answer =
    ReadThen Source (IsVerilog lang.Netlist t.net) (IsVerilogFault lang.Netlist t.net) Net (λ s. TakenThen Netlist (netlist_in s.modules) Net (FromMap t m intent library)) answer

-- the library
unfoldable pub FromLib : Texts → Module → Intent → Answer → Type 0
FromLib t m intent answer = ReadThen Group (IsLiberty t.lib) (IsReadFault t.lib) Lib (FromNet t m intent) answer

-- the power intent, of which only one of one domain is built
unfoldable pub FromUpf : Texts → Module → Answer → Type 0
FromUpf t m answer =
    ReadThen Intent (IsUpf t.upf) (IsUpfFault t.upf) Upf (λ intent. BuiltThen (is_one_domain intent) Upf (FromLib t m intent)) answer

-- the RTL module of a text, if it has just one and that is of one-bit assignments
abbrev pub module_in : List Module → Option Module
module_in (m ∷ []) = cond (is_form m) (Some m) None
module_in _ = None

-- Five texts give the answer. The first point is that of the RTL.
unfoldable pub IsGiven : Texts → Answer → Type 0
IsGiven t answer =
    ReadThen Source (IsVerilog lang.Rtl t.rtl) (IsVerilogFault lang.Rtl t.rtl) Rtl (λ s. TakenThen Module (module_in s.modules) Rtl (FromUpf t)) answer

-- five texts give the design
abbrev pub IsDesign : Texts → Design → Type 0
IsDesign t d = IsGiven t (Ok d)
