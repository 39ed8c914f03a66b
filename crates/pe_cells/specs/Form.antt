-- What is wrong with the form of a cell: faults with their places, of which the earliest is told.
use Rattle.std.specs.Prelude.{ℕ, ltb, leb, Bool, true, false, cond, not, ◌&&◌, ◌||◌, List, [], ◌∷◌, ◌++◌, map, find, drop, length, Option, Some, None, is_some, codes}
use Rattle.std.specs.List.{flat_map}
use Rattle.std.specs.Str.{bytes_eq}
use Rattle.pe_liberty_read.specs.declared.tree.Attr.{Attr}
use Rattle.pe_liberty_read.specs.declared.tree.Group.{Group, out-Group}
use Rattle.pe_cells.specs.declared.cell.Pg.{Pg}
use Rattle.pe_cells.specs.declared.form.Found.{Found}
use Rattle.pe_cells.specs.Kinds.{kind_of, kind_in, is_internal, is_pg_pin, is_pin, is_ff, is_open}
use Rattle.pe_cells.specs.Looking.{has_attr, text_in, place_in, is_called, first_of}

-- a fault at a place, if it is there
abbrev pub found_if : Bool → ℕ → List ℕ → List Found
found_if here at name = cond here (record { place = at; attribute = name } ∷ []) []

-- the one of two that stands earlier, and the first of two at one place
abbrev pub no_later : Found → Option Found → Option Found
no_later f None = Some f
no_later f (Some e) = cond (leb f.place e.place) (Some f) (Some e)

-- the earliest of some, and of one behind them that may be there
abbrev pub earliest_with : List Found → Option Found → Option Found
earliest_with [] e = e
earliest_with (f ∷ fs) e = no_later f (earliest_with fs e)

abbrev pub earliest : List Found → Option Found
earliest fs = earliest_with fs None

-- attributes and groups that may not stand in a cell, because they would give it another meaning
abbrev pub is_excluded : List ℕ → Bool
is_excluded word =
    bytes_eq word (codes "latch") || bytes_eq word (codes "latch_bank") || bytes_eq word (codes "ff_bank") || bytes_eq word (codes "statetable")
    || bytes_eq word (codes "bus") || bytes_eq word (codes "bundle") || bytes_eq word (codes "memory") || bytes_eq word (codes "three_state")
    || bytes_eq word (codes "state_function") || bytes_eq word (codes "clock_gating_integrated_cell")

abbrev pub excluded_attrs : List Attr → List Found
excluded_attrs attrs = flat_map (λ a. found_if (is_excluded a.name) a.place a.name) attrs

abbrev pub excluded_groups : List Group → List Found
excluded_groups groups = flat_map (λ h. found_if (is_excluded (out-Group h).kind) (out-Group h).place (out-Group h).kind) groups

-- those directly in a group; they are looked for in a cell's group and in the groups of its signal pins
abbrev pub excluded_in : Group → List Found
excluded_in g = excluded_attrs (out-Group g).attrs ++ excluded_groups (out-Group g).groups

-- an attribute that is wrong where it stands, or that is missing where it is needed
unfoldable pub checked : Group → List ℕ → Bool → Bool → List Found
checked g name needed right = found_if (cond (has_attr g name) (not right) needed) (place_in g name) name

unfoldable pub has_type : Group → Bool
has_type g = is_some (kind_of (text_in g (codes "pg_type")))

unfoldable pub has_internal : Group → Bool
has_internal g = is_internal (kind_in g)

-- an attribute that names a power or ground pin
unfoldable pub checked_name : List Pg → Group → List ℕ → Bool → List Found
checked_name pgs g name needed = checked g name needed (is_open pgs (text_in g name))

-- of a power or ground pin; an internal one has to be what a switch drives
abbrev pub pg_faults : List Pg → Group → List Found
pg_faults pgs g =
    checked g (codes "pg_type") true (has_type g)
    ++ checked_name pgs g (codes "pg_function") (has_internal g)
    ++ checked g (codes "switch_function") (has_internal g) true

unfoldable pub is_output : Group → Bool
is_output g = bytes_eq (text_in g (codes "direction")) (codes "output")

unfoldable pub has_direction : Group → Bool
has_direction g = is_output g || bytes_eq (text_in g (codes "direction")) (codes "input")

-- a class and the value at which the pin does nothing
abbrev pub is_class : List ℕ → Bool
is_class word = bytes_eq word (codes "save") || bytes_eq word (codes "restore")

abbrev pub is_bit : List ℕ → Bool
is_bit word = bytes_eq word (codes "0") || bytes_eq word (codes "1")

abbrev pub is_retention_pin : Attr → Bool
is_retention_pin a = is_called (codes "retention_pin") a

abbrev pub has_retention_form : Attr → Bool
has_retention_form a = is_class (first_of a.values) && is_bit (first_of (drop 1 a.values))

abbrev pub retention_faults : List Attr → List Found
retention_faults attrs = flat_map (λ a. found_if (is_retention_pin a && not (has_retention_form a)) a.place a.name) attrs

-- what a signal pin is
abbrev pub direction_faults : Group → List Found
direction_faults g = checked g (codes "direction") true (has_direction g) ++ checked g (codes "function") (is_output g) true

-- what it depends on
abbrev pub related_faults : List Pg → Group → List Found
related_faults pgs g = checked_name pgs g (codes "related_power_pin") false ++ checked_name pgs g (codes "related_ground_pin") false

abbrev pub pin_faults : List Pg → Group → List Found
pin_faults pgs g = direction_faults g ++ related_faults pgs g ++ retention_faults (out-Group g).attrs

-- the words of a clear-preset value
unfoldable pub is_clear_preset : List ℕ → Bool
is_clear_preset word = bytes_eq word (codes "L") || bytes_eq word (codes "H") || bytes_eq word (codes "X") || bytes_eq word (codes "N") || bytes_eq word (codes "T")

-- of the register: it has two names
abbrev pub register_faults : Group → List Found
register_faults g =
    found_if (ltb (length (out-Group g).args) 2) (out-Group g).place (codes "ff")
    ++ checked g (codes "next_state") true true
    ++ checked g (codes "clocked_on") true true
    ++ checked g (codes "clear_preset_var1") false (is_clear_preset (text_in g (codes "clear_preset_var1")))
    ++ checked g (codes "clear_preset_var2") false (is_clear_preset (text_in g (codes "clear_preset_var2")))

abbrev pub ff_faults : Option Group → List Found
ff_faults None = []
ff_faults (Some g) = register_faults g

abbrev pub first_ff : List Group → Option Group
first_ff groups = find is_ff groups

-- of a group of a cell
abbrev pub group_faults : List Pg → Group → List Found
group_faults pgs g =
    cond (is_pg_pin g) (pg_faults pgs g) (cond (is_pin g) (excluded_in g ++ pin_faults pgs g) [])

abbrev pub all_group_faults : List Pg → List Group → List Found
all_group_faults pgs groups = flat_map (group_faults pgs) groups

-- the places of the retention pins of a class, once for each name of the pin
abbrev pub has_class : List ℕ → Attr → Bool
has_class word a = is_retention_pin a && bytes_eq (first_of a.values) word

abbrev pub class_places : List ℕ → List Attr → List ℕ
class_places word attrs = flat_map (λ a. cond (has_class word a) (a.place ∷ []) []) attrs

abbrev pub names_places : List ℕ → List Attr → List (List ℕ) → List ℕ
names_places word attrs names = flat_map (λ n. class_places word attrs) names

abbrev pub pin_places : List ℕ → Group → List ℕ
pin_places word g = cond (is_pin g) (names_places word (out-Group g).attrs (out-Group g).args) []

abbrev pub places_of : List ℕ → List Group → List ℕ
places_of word groups = flat_map (pin_places word) groups

-- the places of the registers
abbrev pub ff_places : List Group → List ℕ
ff_places groups = flat_map (λ g. cond (is_ff g) ((out-Group g).place ∷ []) []) groups

abbrev pub all_at : List ℕ → List ℕ → List Found
all_at name places = map (λ at. record { place = at; attribute = name }) places

-- all behind the first are too many
abbrev pub repeated : List ℕ → List ℕ → List Found
repeated name places = all_at name (drop 1 places)

-- all faults of a cell
abbrev pub form_faults : List Pg → Group → List Found
form_faults pgs cell =
    excluded_in cell
    ++ checked cell (codes "switch_cell_type") false (bytes_eq (text_in cell (codes "switch_cell_type")) (codes "coarse_grain"))
    ++ all_group_faults pgs (out-Group cell).groups
    ++ ff_faults (first_ff (out-Group cell).groups)
    ++ repeated (codes "ff") (ff_places (out-Group cell).groups)
    ++ repeated (codes "retention_pin") (places_of (codes "save") (out-Group cell).groups)
    ++ repeated (codes "retention_pin") (places_of (codes "restore") (out-Group cell).groups)
