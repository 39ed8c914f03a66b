-- Lists of names and bytes.
use Rattle.std.specs.Prelude.{ℕ, List, [], ◌∷◌, Option, Some, None, if◌then◌else◌}
use Rattle.std.specs.Str.{bytes_eq}

-- the bytes of the first entry of that name
abbrev pub bytes_named : List (List ℕ × List ℕ) → List ℕ → Option (List ℕ)
bytes_named [] name = None
bytes_named (entry ∷ rest) name = if bytes_eq entry.0 name then Some entry.1 else bytes_named rest name
