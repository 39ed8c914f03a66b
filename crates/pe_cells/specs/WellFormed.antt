-- What makes the view of a cell well formed: its numbers name pins that are there, its functions are small and name no well.
use Rattle.std.specs.Prelude.{◌≡◌, ℕ, ◌+◌, ◌-◌, ◌<◌, ◌≤◌, true, length, Option, Some, None, slice_get, IfSome}
use Rattle.std.specs.List.{All}
use Rattle.pe_bool_expr.specs.declared.expr.Expr.{Expr}
use Rattle.pe_bool_expr.specs.Functions.{different, pins_of}
use Rattle.pe_cells.specs.declared.cell.CellRegister.{CellRegister}
use Rattle.pe_cells.specs.declared.cell.CellRetention.{CellRetention}
use Rattle.pe_cells.specs.declared.cell.CellSwitch.{CellSwitch}
use Rattle.pe_cells.specs.declared.cell.CellView.{CellView}
use Rattle.pe_cells.specs.declared.cell.RetentionPin.{RetentionPin}
use Rattle.pe_cells.specs.declared.cell.Signal.{Signal}
use Rattle.pe_cells.specs.Kinds.{is_open_pg}

-- the place is that of a power or ground pin, and that is no well
abbrev pub IsOpenPlace : CellView → ℕ → Type 0
IsOpenPlace view place = is_open_pg (slice_get view.pgs place) ≡ true

-- the number is that of a signal pin, or of a power or ground pin that is no well
abbrev pub IsPin : CellView → ℕ → Type 0
IsPin view n = length view.signals ≤ n → IsOpenPlace view (n - length view.signals)

-- how many values of a register a function may name
abbrev pub state_count : Option CellRegister → ℕ
state_count None = 0
state_count (Some register) = 2

abbrev pub pin_count : CellView → ℕ
pin_count view = length view.signals + length view.pgs

-- the number is that of a pin, or of IQ or IQN of the register
abbrev pub IsPinOrState : CellView → ℕ → Type 0
IsPinOrState view n = (n < pin_count view → IsPin view n) × (n < pin_count view + state_count view.register)

-- a function of at most 10 different names, each a pin or a value of the register
pub record IsFunctionOf (view : CellView) (e : Expr) : Type 0 where
  pub few : length (different (pins_of e)) ≤ 10
  pub named : All (IsPinOrState view) (pins_of e)

-- one whose names are pins
pub record IsPinFunctionOf (view : CellView) (e : Expr) : Type 0 where
  pub few : length (different (pins_of e)) ≤ 10
  pub named : All (IsPin view) (pins_of e)

pub record IsSignalOf (view : CellView) (signal : Signal) : Type 0 where
  pub function : IfSome signal.function (IsFunctionOf view)
  pub down : IfSome signal.down (IsFunctionOf view)
  pub power : IfSome signal.power (IsOpenPlace view)
  pub ground : IfSome signal.ground (IsOpenPlace view)

pub record IsRegisterIn (view : CellView) (register : CellRegister) : Type 0 where
  pub next : IsFunctionOf view register.next
  pub clock : IsFunctionOf view register.clock
  pub clear : IfSome register.clear (IsPinFunctionOf view)
  pub preset : IfSome register.preset (IsPinFunctionOf view)

abbrev pub IsRetentionPinOf : CellView → RetentionPin → Type 0
IsRetentionPinOf view pin = pin.pin < length view.signals

pub record IsRetentionOf (view : CellView) (retention : CellRetention) : Type 0 where
  pub save : IfSome retention.save (IsRetentionPinOf view)
  pub restore : IfSome retention.restore (IsRetentionPinOf view)

pub record IsSwitchOf (view : CellView) (switch : CellSwitch) : Type 0 where
  pub output : switch.output < length view.pgs
  pub input : IsOpenPlace view switch.input
  pub function : IsFunctionOf view switch.function

pub record IsWellFormed (view : CellView) : Type 0 where
  pub signals : All (IsSignalOf view) view.signals
  pub register : IfSome view.register (IsRegisterIn view)
  pub retention : IfSome view.retention (IsRetentionOf view)
  pub switches : All (IsSwitchOf view) view.switches
