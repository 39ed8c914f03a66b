-- When a row of the power state table holds.
use Rattle.std.specs.Prelude.{ℕ, Bool, true, false, not, ◌&&◌, List, ◌∷◌, slice_index_or}
use Rattle.pe_supply.specs.declared.supplies.Level.{Level}
use Rattle.pe_supply.specs.declared.supplies.Level.TheVariants.{On, Off, Any}

-- a supply at this level may be in the state
abbrev pub allows : Level → Bool → Bool
allows On on = on
allows Off on = not on
allows Any on = true

-- the state of a supply
abbrev pub is_on : List Bool → ℕ → Bool
is_on states supply = slice_index_or states supply false

-- each supply of the table is in a state that the row allows
abbrev pub row_holds : List Level → List ℕ → List Bool → Bool
row_holds (level ∷ levels) (supply ∷ table) states = allows level (is_on states supply) && row_holds levels table states
row_holds _ _ states = true
