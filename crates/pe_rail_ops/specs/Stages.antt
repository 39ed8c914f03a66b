-- Shifts by one bit of an amount after the other.
use Rattle.std.specs.Prelude.{ℕ, ◌-◌, List, ◌++◌, length, take, drop, replicate}
use Rattle.pe_base.specs.declared.value.Val.{Val}
use Rattle.pe_base.specs.Words.{shift_left_of, shift_right_of}
use Rattle.pe_rail_ops.specs.declared.bit.Rail.{Rail}
use Rattle.pe_rail_ops.specs.declared.shifts.Direction.{Direction}
use Rattle.pe_rail_ops.specs.declared.shifts.Direction.TheVariants.{Left, Right}

-- a shift by a number, filled with a value
abbrev pub shifted_in : Direction → Val → List Val → ℕ → List Val
shifted_in Left fill a n = take (length a) (replicate n fill ++ a)
shifted_in Right fill a n = take (length a) (drop n a ++ replicate n fill)

-- a shift by a word, filled with 0
abbrev pub shift_word : Direction → List Val → List Val → List Val
shift_word Left = shift_left_of
shift_word Right = shift_right_of

-- rails moved by at most their number
abbrev pub moved_rails : Direction → Rail → ℕ → List Rail → List Rail
moved_rails Left fill step word = replicate step fill ++ take (length word - step) word
moved_rails Right fill step word = drop step word ++ replicate step fill
