-- The power of a cell (Liberty: pg_pin): which of its power and ground pins have to be on, and what such a pin reads as in a
-- function. Each pin is on or off.
use Rattle.std.specs.Prelude.{Bool, true, false, not, ◌&&◌, ◌||◌, List, slice_index_or}
use Rattle.std.specs.List.{list_all, list_any, zip}
use Rattle.pe_base.specs.declared.value.Val.{Val}
use Rattle.pe_base.specs.declared.value.Val.TheVariants.{Zero, One, Corrupt}
use Rattle.pe_base.specs.Values.{known_of, exact_extension}
use Rattle.pe_bool_expr.specs.Functions.{holds}
use Rattle.pe_cells.specs.declared.cell.CellSwitch.{CellSwitch}
use Rattle.pe_cells.specs.declared.cell.Pg.{Pg}
use Rattle.pe_cells.specs.declared.cell.PgKind.{PgKind}
use Rattle.pe_cells.specs.declared.cell.PgKind.TheVariants.{PrimaryPower, PrimaryGround, BackupPower, BackupGround, InternalPower, InternalGround, Well}

-- what a pin reads as: a power pin is 1 where it is on, and a ground pin 0; a well has no value
abbrev pub pg_value_of : PgKind → Bool → Val
pg_value_of PrimaryPower on = known_of on
pg_value_of BackupPower on = known_of on
pg_value_of InternalPower on = known_of on
pg_value_of PrimaryGround on = known_of (not on)
pg_value_of BackupGround on = known_of (not on)
pg_value_of InternalGround on = known_of (not on)
pg_value_of Well on = Corrupt

-- which pins are asked for
abbrev pub is_primary : PgKind → Bool
is_primary PrimaryPower = true
is_primary PrimaryGround = true
is_primary BackupPower = false
is_primary BackupGround = false
is_primary InternalPower = false
is_primary InternalGround = false
is_primary Well = false

abbrev pub is_primary_ground : PgKind → Bool
is_primary_ground PrimaryPower = false
is_primary_ground PrimaryGround = true
is_primary_ground BackupPower = false
is_primary_ground BackupGround = false
is_primary_ground InternalPower = false
is_primary_ground InternalGround = false
is_primary_ground Well = false

abbrev pub is_backup : PgKind → Bool
is_backup PrimaryPower = false
is_backup PrimaryGround = false
is_backup BackupPower = true
is_backup BackupGround = true
is_backup InternalPower = false
is_backup InternalGround = false
is_backup Well = false

abbrev pub is_backup_ground : PgKind → Bool
is_backup_ground PrimaryPower = false
is_backup_ground PrimaryGround = false
is_backup_ground BackupPower = false
is_backup_ground BackupGround = true
is_backup_ground InternalPower = false
is_backup_ground InternalGround = false
is_backup_ground Well = false

-- each pin that is asked for is on
abbrev pub are_on : (PgKind → Bool) → List Pg → List Bool → Bool
are_on asked pgs ons = list_all (λ p. not (asked p.0.kind) || p.1) (zip pgs ons)

-- the cell is powered: all primary pins are on
abbrev pub is_powered_of : List Pg → List Bool → Bool
is_powered_of pgs ons = are_on is_primary pgs ons

-- what a retention cell keeps has power: all backup pins are on, and where it has no backup ground, all primary grounds too
abbrev pub is_retained_of : List Pg → List Bool → Bool
is_retained_of pgs ons = are_on is_backup pgs ons && (list_any (λ pg. is_backup_ground pg.kind) pgs || are_on is_primary_ground pgs ons)

-- the value is a known 0
abbrev pub is_zero : Val → Bool
is_zero Zero = true
is_zero One = false
is_zero Corrupt = false

-- what a switch drives is on: the pin that it passes on is on, and its function is a known 0
abbrev pub has_switch_on_of : CellSwitch → List Val → List Bool → Bool
has_switch_on_of switch values ons = slice_index_or ons switch.input false && is_zero (exact_extension (holds switch.function) values)
