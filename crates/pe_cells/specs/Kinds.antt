-- The words that attributes of a cell may say, and the power and ground pins of a cell.
use Rattle.std.specs.Prelude.{ℕ, Bool, true, false, cond, not, ◌||◌, List, [], map, Option, Some, None, codes, find}
use Rattle.std.specs.List.{flat_map}
use Rattle.std.specs.Str.{bytes_eq}
use Rattle.pe_liberty_read.specs.declared.tree.Group.{Group, out-Group}
use Rattle.pe_cells.specs.declared.cell.Pg.{Pg}
use Rattle.pe_cells.specs.declared.cell.PgKind.{PgKind}
use Rattle.pe_cells.specs.declared.cell.PgKind.TheVariants.{PrimaryPower, PrimaryGround, BackupPower, BackupGround, InternalPower, InternalGround, Well}
use Rattle.pe_cells.specs.Looking.{text_in, is_kind}

-- the words of wells
abbrev pub is_well_word : List ℕ → Bool
is_well_word word = bytes_eq word (codes "nwell") || bytes_eq word (codes "pwell") || bytes_eq word (codes "deepnwell") || bytes_eq word (codes "deeppwell")

-- the words of pg_type
abbrev pub kind_of : List ℕ → Option PgKind
kind_of word =
    cond (bytes_eq word (codes "primary_power")) (Some PrimaryPower)
    (cond (bytes_eq word (codes "primary_ground")) (Some PrimaryGround)
    (cond (bytes_eq word (codes "backup_power")) (Some BackupPower)
    (cond (bytes_eq word (codes "backup_ground")) (Some BackupGround)
    (cond (bytes_eq word (codes "internal_power")) (Some InternalPower)
    (cond (bytes_eq word (codes "internal_ground")) (Some InternalGround)
    (cond (is_well_word word) (Some Well) None))))))

-- a pin of another type is refused; until then it is none that is asked for
abbrev pub kind_or : Option PgKind → PgKind
kind_or None = PrimaryPower
kind_or (Some kind) = kind

abbrev pub kind_in : Group → PgKind
kind_in g = kind_or (kind_of (text_in g (codes "pg_type")))

abbrev pub is_internal : PgKind → Bool
is_internal PrimaryPower = false
is_internal PrimaryGround = false
is_internal BackupPower = false
is_internal BackupGround = false
is_internal InternalPower = true
is_internal InternalGround = true
is_internal Well = false

abbrev pub is_well : PgKind → Bool
is_well PrimaryPower = false
is_well PrimaryGround = false
is_well BackupPower = false
is_well BackupGround = false
is_well InternalPower = false
is_well InternalGround = false
is_well Well = true

-- the power and ground pins of a group: each of its names is one
abbrev pub pgs_in : Group → List Pg
pgs_in g = map (λ n. record { name = n; kind = kind_in g }) (out-Group g).args

abbrev pub is_pg_pin : Group → Bool
is_pg_pin g = is_kind (codes "pg_pin") g

abbrev pub is_pin : Group → Bool
is_pin g = is_kind (codes "pin") g

abbrev pub is_ff : Group → Bool
is_ff g = is_kind (codes "ff") g

-- the power and ground pins of a cell, in the order of the text
abbrev pub pgs_of : List Group → List Pg
pgs_of groups = flat_map (λ g. cond (is_pg_pin g) (pgs_in g) []) groups

-- the first pin of the name
abbrev pub pg_named : List Pg → List ℕ → Option Pg
pg_named pgs name = find (λ pg. bytes_eq pg.name name) pgs

abbrev pub is_open_pg : Option Pg → Bool
is_open_pg None = false
is_open_pg (Some pg) = not (is_well pg.kind)

-- a power or ground pin has the name, and the first one is no well
unfoldable pub is_open : List Pg → List ℕ → Bool
is_open pgs name = is_open_pg (pg_named pgs name)
