-- The cell that a library has of a name, as a view, and why it has none.
use Rattle.std.specs.Prelude.{◌≡◌, ℕ, ◌+◌, Bool, cond, ◌&&◌, List, [], ◌∷◌, ◌++◌, map, drop, find, length, Option, Some, None, is_some, Result, Ok, Err, codes}
use Rattle.std.specs.List.{AllZip, flat_map, range_with_len}
use Rattle.std.specs.Str.{bytes_eq}
use Rattle.pe_base.specs.declared.value.Val.{Val}
use Rattle.pe_base.specs.declared.value.Val.TheVariants.{Zero, One, Corrupt}
use Rattle.pe_bool_expr.specs.declared.expr.Expr.{Expr}
use Rattle.pe_liberty_read.specs.declared.tree.Attr.{Attr}
use Rattle.pe_liberty_read.specs.declared.tree.Group.{Group, out-Group}
use Rattle.pe_cells.specs.declared.cell.CellRegister.{CellRegister}
use Rattle.pe_cells.specs.declared.cell.CellRetention.{CellRetention}
use Rattle.pe_cells.specs.declared.cell.CellSwitch.{CellSwitch}
use Rattle.pe_cells.specs.declared.cell.CellView.{CellView}
use Rattle.pe_cells.specs.declared.cell.Pg.{Pg}
use Rattle.pe_cells.specs.declared.cell.RetentionPin.{RetentionPin}
use Rattle.pe_cells.specs.declared.cell.Signal.{Signal}
use Rattle.pe_cells.specs.declared.fault.CellFault.{CellFault}
use Rattle.pe_cells.specs.declared.fault.CellFault.TheVariants.{Memory, NoCell, CellForm, Expression}
use Rattle.pe_cells.specs.declared.form.Found.{Found}
use Rattle.pe_cells.specs.Form.{earliest, first_ff, form_faults, has_class, has_internal, is_output}
use Rattle.pe_cells.specs.Functions.{Use, use_of, use_if, Says, IsUsed, AreJudged}
use Rattle.pe_cells.specs.Kinds.{is_pg_pin, pgs_of}
use Rattle.pe_cells.specs.Looking.{cell_in, first_of, has_attr, text_in}
use Rattle.pe_cells.specs.Naming.{Pin, pins_of, pin_names, all_names}

-- the place of the first power or ground pin of the name, or how many there are
abbrev pub pg_place : List Pg → List ℕ → ℕ
pg_place [] name = 0
pg_place (pg ∷ pgs) name = cond (bytes_eq pg.name name) 0 (1 + pg_place pgs name)

-- the power or ground pin that an attribute names, if it is there
abbrev pub related_in : List Pg → Group → List ℕ → Option ℕ
related_in pgs g attribute = cond (has_attr g attribute) (Some (pg_place pgs (text_in g attribute))) None

-- the functions of an output
abbrev pub function_use : List (List ℕ) → Group → Use
function_use names g = use_of names g (codes "function")

abbrev pub down_use : List (List ℕ) → Group → Use
down_use names g = use_of names g (codes "power_down_function")

abbrev pub has_down : Group → Bool
has_down g = is_output g && has_attr g (codes "power_down_function")

-- the signal pin that a name of a group is
pub record IsSignal (names : List (List ℕ)) (pgs : List Pg) (pin : Pin) (signal : Signal) : Type 0 where
  pub name : signal.name ≡ pin.name
  pub output : signal.output ≡ is_output pin.group
  pub function : IsUsed (function_use names pin.group) (is_output pin.group) signal.function
  pub down : IsUsed (down_use names pin.group) (has_down pin.group) signal.down
  pub power : signal.power ≡ related_in pgs pin.group (codes "related_power_pin")
  pub ground : signal.ground ≡ related_in pgs pin.group (codes "related_ground_pin")

abbrev pub signal_uses : List (List ℕ) → Pin → List Use
signal_uses names pin = use_if (is_output pin.group) (function_use names pin.group) ++ use_if (has_down pin.group) (down_use names pin.group)

-- L is 0 and H is 1; X, N, T and a missing word are corrupt
abbrev pub clear_preset : List ℕ → Val
clear_preset word = cond (bytes_eq word (codes "L")) Zero (cond (bytes_eq word (codes "H")) One Corrupt)

abbrev pub both_of : Group → Val × Val
both_of ff = (clear_preset (text_in ff (codes "clear_preset_var1")), clear_preset (text_in ff (codes "clear_preset_var2")))

-- the register of a group: next state and clock are functions of all names, clear and preset of the pins alone
pub record IsRegister (names pins : List (List ℕ)) (ff : Group) (register : CellRegister) : Type 0 where
  pub next : Says (use_of names ff (codes "next_state")) register.next
  pub clock : Says (use_of names ff (codes "clocked_on")) register.clock
  pub clear : IsUsed (use_of pins ff (codes "clear")) (has_attr ff (codes "clear")) register.clear
  pub preset : IsUsed (use_of pins ff (codes "preset")) (has_attr ff (codes "preset")) register.preset
  pub both : register.both ≡ both_of ff

-- the register of these functions, if next state and clock are there
abbrev pub register_with : Option Expr → Option Expr → Option Expr → Option Expr → Val × Val → Option CellRegister
register_with (Some next) (Some clock) clear preset both = Some (record { next = next; clock = clock; clear = clear; preset = preset; both = both })
register_with (Some next) None clear preset both = None
register_with None clock clear preset both = None

-- a cell has a register exactly where it has a group for it
abbrev pub IsRegisterOf : List (List ℕ) → List (List ℕ) → Option Group → Option CellRegister → Type 0
IsRegisterOf names pins None register = register ≡ None
IsRegisterOf names pins (Some ff) None = ⊥
IsRegisterOf names pins (Some ff) (Some register) = IsRegister names pins ff register

abbrev pub register_uses : List (List ℕ) → List (List ℕ) → Option Group → List Use
register_uses names pins None = []
register_uses names pins (Some ff) =
    use_of names ff (codes "next_state") ∷ []
    ++ use_of names ff (codes "clocked_on") ∷ []
    ++ use_if (has_attr ff (codes "clear")) (use_of pins ff (codes "clear"))
    ++ use_if (has_attr ff (codes "preset")) (use_of pins ff (codes "preset"))

-- the retention pin of a class that an attribute of the pin with this place makes it
abbrev pub retention_pin_by : ℕ → Option Attr → Option RetentionPin
retention_pin_by place None = None
retention_pin_by place (Some a) = Some (record { pin = place; disable = bytes_eq (first_of (drop 1 a.values)) (codes "1"); rising = None })

-- the first retention pin of a class, among signal pins of which the first has this place
abbrev pub retention_pin_from : List ℕ → ℕ → List Pin → Option RetentionPin
retention_pin_from class place [] = None
retention_pin_from class place (pin ∷ pins) =
    let attr = find (has_class class) (out-Group pin.group).attrs in
    cond (is_some attr) (retention_pin_by place attr) (retention_pin_from class (place + 1) pins)

abbrev pub retention_pin : List ℕ → List Group → Option RetentionPin
retention_pin class groups = retention_pin_from class 0 (pins_of groups)

-- a cell keeps a value exactly where it says so and has a register
abbrev pub retention_of : Group → Option CellRetention
retention_of cell =
    cond (has_attr cell (codes "retention_cell") && is_some (first_ff (out-Group cell).groups))
    (Some (record { save = retention_pin (codes "save") (out-Group cell).groups; restore = retention_pin (codes "restore") (out-Group cell).groups }))
    None

-- a power or ground pin that a switch of the cell drives: an internal one with both attributes
pub record Output : Type 0 where
  pub place : ℕ
  pub group : Group

abbrev pub is_switch : Group → Bool
is_switch g = is_pg_pin g && (has_internal g && (has_attr g (codes "pg_function") && has_attr g (codes "switch_function")))

abbrev pub output_of : Group → ℕ → Output
output_of g place = record { place = place; group = g }

-- those of a group whose first pin has this place, and how many pins it has
abbrev pub outputs_in : ℕ → Group → List Output
outputs_in place g = cond (is_switch g) (map (output_of g) (range_with_len place (length (out-Group g).args))) []

abbrev pub count_pgs : Group → ℕ
count_pgs g = cond (is_pg_pin g) (length (out-Group g).args) 0

abbrev pub outputs_from : ℕ → List Group → List Output
outputs_from place [] = []
outputs_from place (g ∷ groups) = outputs_in place g ++ outputs_from (place + count_pgs g) groups

abbrev pub outputs_of : List Group → List Output
outputs_of groups = outputs_from 0 groups

abbrev pub switch_use : List (List ℕ) → Output → Use
switch_use names output = use_of names output.group (codes "switch_function")

-- the switch that drives a pin
pub record IsSwitch (names : List (List ℕ)) (pgs : List Pg) (driven : Output) (switch : CellSwitch) : Type 0 where
  pub output : switch.output ≡ driven.place
  pub input : switch.input ≡ pg_place pgs (text_in driven.group (codes "pg_function"))
  pub function : Says (switch_use names driven) switch.function

-- all functions that a cell uses
abbrev pub uses_of : List Group → List Use
uses_of groups =
    flat_map (signal_uses (all_names groups)) (pins_of groups)
    ++ register_uses (all_names groups) (pin_names groups) (first_ff groups)
    ++ map (switch_use (all_names groups)) (outputs_of groups)

-- a cell of the right form, of which no function is wrong, has this view
pub record IsViewOf (cell : Group) (view : CellView) : Type 0 where
  pub formed : form_faults (pgs_of (out-Group cell).groups) cell ≡ []
  pub functions : AreJudged (uses_of (out-Group cell).groups) []
  pub signals : AllZip (IsSignal (all_names (out-Group cell).groups) (pgs_of (out-Group cell).groups)) (pins_of (out-Group cell).groups) view.signals
  pub pgs : view.pgs ≡ pgs_of (out-Group cell).groups
  pub register : IsRegisterOf (all_names (out-Group cell).groups) (pin_names (out-Group cell).groups) (first_ff (out-Group cell).groups) view.register
  pub retention : view.retention ≡ retention_of cell
  pub switches : AllZip (IsSwitch (all_names (out-Group cell).groups) (pgs_of (out-Group cell).groups)) (outputs_of (out-Group cell).groups) view.switches

-- the form of a cell is wrong, and of what is wrong this is the earliest
pub record IsFormFault (cell : Group) (attribute : List ℕ) : Type 0 where
  pub fault : Found
  pub first : earliest (form_faults (pgs_of (out-Group cell).groups) cell) ≡ Some fault
  pub is : attribute ≡ fault.attribute

-- the form is right, and of the functions that are none this is the earliest
pub record IsFunctionFault (cell : Group) (attribute : List ℕ) : Type 0 where
  pub formed : form_faults (pgs_of (out-Group cell).groups) cell ≡ []
  pub faults : List Found
  pub judged : AreJudged (uses_of (out-Group cell).groups) faults
  pub fault : Found
  pub first : earliest faults ≡ Some fault
  pub is : attribute ≡ fault.attribute

-- the library's cell of the name has the view
abbrev pub IsView : Group → List ℕ → CellView → Type 0
IsView library name view = (cell : Group) × (cell_in library name ≡ Some cell) × IsViewOf cell view

-- why the library's cell of the name has none
abbrev pub IsRefusal : Group → List ℕ → CellFault → Type 0
IsRefusal library name Memory = Unit {0}
IsRefusal library name (NoCell cell) = (cell ≡ name) × (cell_in library name ≡ None)
IsRefusal library name (CellForm cell attribute) = (cell ≡ name) × ((g : Group) × (cell_in library name ≡ Some g) × IsFormFault g attribute)
IsRefusal library name (Expression cell attribute) = (cell ≡ name) × ((g : Group) × (cell_in library name ≡ Some g) × IsFunctionFault g attribute)

-- what is so of a library and a name; nothing but a lack of memory is said by Memory
abbrev pub IsOutcome : Group → List ℕ → Result CellView CellFault → Type 0
IsOutcome library name (Ok view) = IsView library name view
IsOutcome library name (Err Memory) = ⊥
IsOutcome library name (Err (NoCell cell)) = IsRefusal library name (NoCell cell)
IsOutcome library name (Err (CellForm cell attribute)) = IsRefusal library name (CellForm cell attribute)
IsOutcome library name (Err (Expression cell attribute)) = IsRefusal library name (Expression cell attribute)

-- what is answered of a cell of a name
abbrev pub IsAnswer : Group → List ℕ → Result CellView CellFault → Type 0
IsAnswer cell name (Ok view) = IsViewOf cell view
IsAnswer cell name (Err Memory) = Unit {0}
IsAnswer cell name (Err (NoCell asked)) = ⊥
IsAnswer cell name (Err (CellForm asked attribute)) = (asked ≡ name) × IsFormFault cell attribute
IsAnswer cell name (Err (Expression asked attribute)) = (asked ≡ name) × IsFunctionFault cell attribute
