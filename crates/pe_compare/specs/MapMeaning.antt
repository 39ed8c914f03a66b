-- The lines that a derivation is.
use Rattle.std.specs.Prelude.{ℕ, Bool, true, false, List, [], Option, Some, None}
use Rattle.std.specs.List.{cons_option}
use Rattle.pe_grammar.specs.Derivation.{Derivation, leaf, pair, left, right, more, once}
use Rattle.pe_reader.specs.Words.{word_at}
use Rattle.pe_text.specs.declared.token.Token.{Token}
use Rattle.pe_compare.specs.declared.map.MapFile.{MapFile}
use Rattle.pe_compare.specs.declared.map.MapLine.{MapLine}
use Rattle.pe_compare.specs.declared.map.MapLine.TheVariants.{Top, Clock, Supply, Port, Tie, Reg, Drop, Start, Step}

-- the number of the token of a name
abbrev pub number_of : Derivation → ℕ
number_of (leaf t) = t.place
number_of (left d) = number_of d
number_of (right d) = number_of d
number_of _ = 0

abbrev pub name_of : List ℕ → List Token → Derivation → List ℕ
name_of text tokens d = word_at text tokens (number_of d)

-- the first name of those behind the first word of a line
abbrev pub first_of : List ℕ → List Token → Derivation → List ℕ
first_of text tokens (pair name rest) = name_of text tokens name
first_of text tokens _ = []

-- the second one
abbrev pub second_of : List ℕ → List Token → Derivation → List ℕ
second_of text tokens (pair name rest) = first_of text tokens rest
second_of text tokens _ = []

-- whether the value behind a name is 1
abbrev pub is_one : Derivation → Bool
is_one (pair name (pair (right one) end)) = true
is_one _ = false

-- whether `inv` stands behind two names
abbrev pub is_inverted : Derivation → Bool
is_inverted (pair rtl (pair net (pair (left inv) end))) = true
is_inverted _ = false

-- what a line says of the design
abbrev pub design_of : List ℕ → List Token → Derivation → Option MapLine
design_of text tokens (left (pair top d)) = Some (Top (first_of text tokens d) (second_of text tokens d))
design_of text tokens (right (pair clock d)) = Some (Clock (first_of text tokens d))
design_of text tokens _ = None

-- of a port
abbrev pub port_of : List ℕ → List Token → Derivation → Option MapLine
port_of text tokens (left (pair supply d)) = Some (Supply (first_of text tokens d) (second_of text tokens d))
port_of text tokens (right (left (pair port d))) = Some (Port (first_of text tokens d) (second_of text tokens d))
port_of text tokens (right (right (pair tie d))) = Some (Tie (first_of text tokens d) (is_one d))
port_of text tokens _ = None

-- of a register
abbrev pub register_of : List ℕ → List Token → Derivation → Option MapLine
register_of text tokens (left (pair reg d)) = Some (Reg (first_of text tokens d) (second_of text tokens d) (is_inverted d))
register_of text tokens (right (pair drop d)) = Some (Drop (first_of text tokens d))
register_of text tokens _ = None

-- of rows
abbrev pub row_of : List ℕ → List Token → Derivation → Option MapLine
row_of text tokens (left (pair start d)) = Some (Start (first_of text tokens d))
row_of text tokens (right (pair step d)) = Some (Step (first_of text tokens d) (second_of text tokens d))
row_of text tokens _ = None

-- what a line says, if it is not empty
abbrev pub line_of : List ℕ → List Token → Derivation → Option MapLine
line_of text tokens (left d) = design_of text tokens d
line_of text tokens (right (left d)) = port_of text tokens d
line_of text tokens (right (right (left d))) = register_of text tokens d
line_of text tokens (right (right (right (left d)))) = row_of text tokens d
line_of text tokens _ = None

abbrev pub lines_of : List ℕ → List Token → Derivation → List MapLine
lines_of text tokens (more d e) = cons_option (line_of text tokens d) (lines_of text tokens e)
lines_of text tokens _ = []

-- the map file that a derivation of the whole grammar is
abbrev pub map_of : List ℕ → List Token → Derivation → MapFile
map_of text tokens (once d) = record { lines = lines_of text tokens d }
map_of text tokens _ = record { lines = [] }
