-- When a circuit is wired: each instance is joined to nets that have their values before it, and each net is driven once.
use Rattle.std.specs.Prelude.{ℕ, Bool, true, false, not, ◌&&◌, ◌||◌, Option, Some, None, is_none, List, [], ◌∷◌, ◌++◌, map, slice_get}
use Rattle.std.specs.List.{list_all, list_any}
use Rattle.std.specs.Str.{bytes_eq}
use Rattle.pe_base.specs.Names.{has_name, are_distinct, all_among}
use Rattle.pe_bool_expr.specs.declared.expr.Expr.{Expr}
use Rattle.pe_bool_expr.specs.Functions.{pins_of}
use Rattle.pe_cells.specs.declared.cell.CellView.{CellView}
use Rattle.pe_cells.specs.declared.cell.Pg.{Pg}
use Rattle.pe_cells.specs.declared.cell.PgKind.{PgKind}
use Rattle.pe_cells.specs.declared.cell.Signal.{Signal}
use Rattle.pe_cells.specs.Kinds.{is_well}
use Rattle.pe_assigns.specs.Form.{is_some_of}
use Rattle.pe_instances.specs.declared.parts.Instance.{Instance}
use Rattle.pe_instances.specs.declared.parts.Netlist.{Netlist}
use Rattle.pe_instances.specs.declared.parts.Circuit.{Circuit}
use Rattle.pe_instances.specs.Form.{nets, driven_names}
use Rattle.pe_instances.specs.Pins.{net_on, view_of, nets_driven, targets}

-- the number is that of an output pin
abbrev pub is_output_pin : Option Signal → Bool
is_output_pin None = false
is_output_pin (Some s) = s.output

-- a function names inputs and power and ground pins alone
abbrev pub reads_inputs : List Signal → Expr → Bool
reads_inputs signals e = list_all (λ n. not (is_output_pin (slice_get signals n))) (pins_of e)

abbrev pub read_inputs_alone : List Signal → Option Expr → Bool
read_inputs_alone signals None = true
read_inputs_alone signals (Some e) = reads_inputs signals e

abbrev pub pin_names : CellView → List (List ℕ)
pin_names v = map (λ s. s.name) v.signals ++ map (λ p. p.name) v.pgs

-- A cell is plain: it has no register and no switch, its pins have different names, and its functions name no output.
abbrev pub is_plain_cell : CellView → Bool
is_plain_cell v =
    (is_none v.register && (is_none v.retention && not (is_some_of v.switches)))
    && (are_distinct (pin_names v)
    && list_all (λ s. read_inputs_alone v.signals s.function && read_inputs_alone v.signals s.down) v.signals)

-- the cell has a pin of the name
abbrev pub has_pin : CellView → List ℕ → Bool
has_pin v name = list_any (λ s. bytes_eq s.name name) v.signals || list_any (λ p. bytes_eq p.name name) v.pgs

abbrev pub is_among : List (List ℕ) → Option (List ℕ) → Bool
is_among names None = false
is_among names (Some net) = has_name names net

-- an input is on a net that is known; an output may be open
abbrev pub is_fed : List (List ℕ) → Instance → Signal → Bool
is_fed known i s = s.output || is_among known (net_on i s.name)

abbrev pub is_supplied_by : List (List ℕ) → PgKind → Option (List ℕ) → Bool
is_supplied_by ports kind None = is_well kind
is_supplied_by ports kind (Some net) = has_name ports net

-- a power or ground pin is on a port of a supply; a well may be open
abbrev pub is_supplied : List (List ℕ) → Instance → Pg → Bool
is_supplied ports i pg = is_supplied_by ports pg.kind (net_on i pg.name)

-- An instance is joined to its cell: what it connects are pins of the cell, the inputs are on nets that are known, and the
-- power and ground pins are on ports of supplies.
abbrev pub is_joined : List (List ℕ) → List (List ℕ) → Instance → Option CellView → Bool
is_joined ports known i None = false
is_joined ports known i (Some v) = list_all (λ c. has_pin v c.pin) i.connections && (list_all (is_fed known i) v.signals && list_all (is_supplied ports i) v.pgs)

abbrev pub supply_names : Circuit → List (List ℕ)
supply_names c = map (λ p. p.name) c.supplies

-- the nets that are known, and these besides
abbrev pub known_with : List (List ℕ) → List (List ℕ) → List (List ℕ)
known_with [] known = known
known_with (net ∷ more) known = known_with more (net ∷ known)

-- Each instance is joined over the nets that are known: those that are given a value, and those that instances before it
-- drive. The port of a supply is never one of them, so that no input pin reads it.
abbrev pub are_ordered : Circuit → List (List ℕ) → List Instance → Bool
are_ordered c known [] = true
are_ordered c known (i ∷ more) =
    is_joined (supply_names c) known i (view_of c i.cell) && are_ordered c (known_with (nets_driven i (view_of c i.cell)) known) more

-- each output and wire is driven once, and nothing else is
abbrev pub is_driven_once : Circuit → Bool
is_driven_once c =
    are_distinct (targets c) && (all_among (targets c) (driven_names c.netlist) && all_among (driven_names c.netlist) (targets c))

-- what is given a value are different inputs
abbrev pub are_given : Netlist → List (List ℕ) → Bool
are_given n given = are_distinct given && all_among n.inputs given

-- The circuit is wired: the names of nets differ, what is given a value are different inputs, the cells are plain, each
-- instance is joined over what is known before it, and each output and wire is driven once, and nothing else is.
abbrev pub is_wired : Circuit → Bool
is_wired c =
    are_distinct (nets c.netlist)
    && (are_given c.netlist c.given
    && (list_all is_plain_cell c.views
    && (are_ordered c c.given c.netlist.instances
    && is_driven_once c)))
