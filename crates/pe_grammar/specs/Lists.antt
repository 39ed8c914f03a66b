-- Lists with separators: a first part, and then any number of a separator and a next part.
use Rattle.std.specs.Prelude.{List, [], ◌∷◌}
use Rattle.pe_grammar.specs.Derivation.{Derivation, nothing, pair, more}

-- what stands second in a sequence of two
abbrev pub second_part : Derivation → Derivation
second_part (pair d e) = e
second_part _ = nothing

-- what stands second in each of those that are repeated
abbrev pub seconds : Derivation → List Derivation
seconds (more d e) = second_part d ∷ seconds e
seconds _ = []

-- the parts of a list, in order
abbrev pub listed : Derivation → List Derivation
listed (pair first rest) = first ∷ seconds rest
listed _ = []
