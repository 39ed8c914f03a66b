-- Lists with separators, as the values of their parts.
use Rattle.std.specs.Prelude.{List, map}
use Rattle.pe_grammar.specs.Derivation.{Derivation}
use Rattle.pe_grammar.specs.Lists.{listed}

-- the values of a list's parts, in order
abbrev pub list_by : {A : Type 0} → (Derivation → A) → Derivation → List A
list_by value d = map value (listed d)
