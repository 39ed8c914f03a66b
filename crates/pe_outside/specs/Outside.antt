-- What the calls of a reader of files and of an output do to what they tell, and how their faults are counted.
use Rattle.std.specs.Prelude.{◌≡◌, ◌<◌, ◌≤◌, ℕ, ◌+◌, ◌-◌, ◌^◌, min, List, ◌++◌, length, take, drop, Option, Some, None}

-- a count of 64 bits, one higher, or at its last value
abbrev pub next_count : ℕ → ℕ
next_count count = min (count + 1) (2 ^ 64 - 1)

-- A count of faults rose, or stands at the last value of 64 bits.
abbrev pub HasRisen : ℕ → ℕ → Type 0
HasRisen old new = next_count old ≤ new

-- The first bytes of a buffer are those of a text from a place on, and the text has as many left.
pub record IsPlaced (bytes : List ℕ) (at placed : ℕ) (buffer : List ℕ) : Type 0 where
  pub same : take placed buffer ≡ take placed (drop at bytes)
  pub left : placed ≤ length bytes - at

-- Nothing is placed only in a buffer of no room or at the end of the text.
abbrev pub EndsOnly : List ℕ → ℕ → ℕ → ℕ → Type 0
EndsOnly bytes at placed room = 0 < room → at < length bytes → 0 < placed

-- what was written, where that is told, with more at its end
abbrev pub grown : Option (List ℕ) → List ℕ → Option (List ℕ)
grown None more = None
grown (Some written) more = Some (written ++ more)

-- what was written, where that is told, with the first bytes of more at its end
abbrev pub GrowsByPrefix : Option (List ℕ) → Option (List ℕ) → List ℕ → Type 0
GrowsByPrefix old new more = (k : ℕ) × (k ≤ length more) × (new ≡ grown old (take k more))

-- a list is the front of another
abbrev pub IsFront : List ℕ → List ℕ → Type 0
IsFront front whole = take (length front) whole ≡ front
