-- What a scratch knows.
use Rattle.std.specs.Prelude.{ℕ, Bool}
use Rattle.pe_refute.specs.Follow.{marked}
use Rattle.pe_refute.specs.declared.scratch.Scratch.{Scratch}

-- the literals that are known to be true
abbrev pub knows_of : Scratch → ℕ → Bool
knows_of s l = marked s.marks.items s.stamp l

-- for how many variables there is room
abbrev pub room_of : Scratch → ℕ
room_of s = s.vars
