-- Nets by name, and their values in a map, which has one value for each net in the order of the nets.
use Rattle.std.specs.Prelude.{ℕ, List, [], slice_index_or}
use Rattle.pe_base.specs.declared.value.Val.{Val}
use Rattle.pe_base.specs.declared.value.Val.TheVariants.{Corrupt}
use Rattle.pe_base.specs.Names.{place_of}

-- the name at a place
abbrev pub name_at : List (List ℕ) → ℕ → List ℕ
name_at names k = slice_index_or names k []

-- the value of a net in a map; what is no net is corrupt
abbrev pub value_in : List (List ℕ) → List Val → List ℕ → Val
value_in nets values name = slice_index_or values (place_of nets name) Corrupt
