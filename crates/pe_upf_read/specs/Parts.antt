-- Parts of derivations. Each is there whatever the derivation, so that a tree is said without the shape of what it is of; the
-- grammar says which parts a command and an option have.
use Rattle.std.specs.Prelude.{ℕ, zero, suc, ◌==◌, List, [], ◌∷◌, Option, Some, None, if◌then◌else◌}
use Rattle.pe_grammar.specs.Derivation.{Derivation, leaf, pair, left, right, more, once}
use Rattle.pe_upf_read.specs.declared.table.TheConstants.{OTHER}

-- what is taken of choices, one in another
unfoldable pub bare : Derivation → Derivation
bare (left d) = bare d
bare (right d) = bare d
bare d = d

-- the first part of a sequence
unfoldable pub first_of : Derivation → Derivation
first_of (pair d e) = d
first_of d = d

-- the sequence behind its first part
unfoldable pub rest_of : Derivation → Derivation
rest_of (pair d e) = e
rest_of d = d

-- the sequence behind its first n parts
unfoldable pub behind : ℕ → Derivation → Derivation
behind zero d = d
behind (suc n) d = behind n (rest_of d)

-- the part of a sequence with this number, from 0, if it is not the last
unfoldable pub part : ℕ → Derivation → Derivation
part n d = first_of (behind n d)

-- the terminal that begins a sequence, or OTHER
unfoldable pub head_of : Derivation → ℕ
head_of (leaf t) = t.kind
head_of (pair d e) = head_of d
head_of (left d) = head_of d
head_of (right d) = head_of d
head_of _ = OTHER

-- what is repeated, one after the other
unfoldable pub each : Derivation → List Derivation
each (more d e) = d ∷ each e
each (once d) = each d
each _ = []

-- what stands behind its first word, for the first option that this word begins
unfoldable pub find : ℕ → List Derivation → Option Derivation
find k [] = None
find k (d ∷ ds) = if head_of d == k then Some (behind 1 (bare d)) else find k ds

-- the same for each option that the word begins
unfoldable pub all : ℕ → List Derivation → List Derivation
all k [] = []
all k (d ∷ ds) = if head_of d == k then behind 1 (bare d) ∷ all k ds else all k ds
