-- The power state table and its rows.
use Rattle.std.specs.Prelude.{ℕ, ◌==◌, Bool, not, ◌&&◌, cond, List, [], ◌∷◌, length, map, find, codes, Option, Some, None, is_none, unwrap_or}
use Rattle.std.specs.List.{zip, flat_map}
use Rattle.std.specs.Option.{option_map}
use Rattle.std.specs.Str.{bytes_eq}
use Rattle.pe_supply.specs.declared.plan.PortState.{PortState}
use Rattle.pe_supply.specs.declared.plan.RowText.{RowText}
use Rattle.pe_supply.specs.declared.plan.TableText.{TableText}
use Rattle.pe_supply.specs.declared.plan.SetText.{SetText}
use Rattle.pe_supply.specs.declared.supplies.Level.{Level}
use Rattle.pe_supply.specs.declared.supplies.Level.TheVariants.{On, Off, Any}
use Rattle.pe_supply.specs.declared.supplies.Row.{Row}
use Rattle.pe_supply.specs.Numbers.{number_of}

-- the names of the table's supplies
abbrev pub columns : List TableText → List (List ℕ)
columns [] = []
columns (t ∷ ts) = t.supplies

-- the name of a second table
abbrev pub second_table : List TableText → Option (List ℕ)
second_table [] = None
second_table (t ∷ []) = None
second_table (t ∷ u ∷ ts) = Some u.name

-- a row that is not as long as the table
abbrev pub is_unlike : ℕ → RowText → Bool
is_unlike width row = not (length row.words == width)

abbrev pub first_unlike : ℕ → List RowText → Option (List ℕ)
first_unlike width rows = option_map (λ row. row.name) (find (is_unlike width) rows)

-- a state of this supply, of this name
abbrev pub is_state : List (List ℕ × ℕ) → ℕ → List ℕ → PortState → Bool
is_state names supply word state = (number_of names state.port == supply) && bytes_eq state.name word

-- what a state says of its supply
abbrev pub level_in : Option PortState → Option Level
level_in None = None
level_in (Some state) = Some (cond state.on On Off)

-- what a word says of a supply: * any, and the name of a state what its first state of that name says
abbrev pub level_of : List (List ℕ × ℕ) → List PortState → ℕ → List ℕ → Option Level
level_of names states supply word = cond (bytes_eq word (codes "*")) (Some Any) (level_in (find (is_state names supply word) states))

-- the supplies of the table
abbrev pub table_in : List (List ℕ × ℕ) → List TableText → List ℕ
table_in names tables = map (number_of names) (columns tables)

-- each supply with its word
abbrev pub cells_of : List ℕ → RowText → List (ℕ × List ℕ)
cells_of table row = zip table row.words

abbrev pub is_unknown : List (List ℕ × ℕ) → List PortState → ℕ × List ℕ → Bool
is_unknown names states cell = is_none (level_of names states cell.0 cell.1)

-- the first word that is no state of its supply
abbrev pub first_unknown : List (List ℕ × ℕ) → List PortState → List ℕ → List RowText → Option (List ℕ)
first_unknown names states table rows = option_map (λ cell. cell.1) (find (is_unknown names states) (flat_map (cells_of table) rows))

abbrev pub row_in : List (List ℕ × ℕ) → List PortState → List ℕ → RowText → Row
row_in names states table row = record { name = row.name; levels = map (λ cell. unwrap_or (level_of names states cell.0 cell.1) Any) (cells_of table row) }

abbrev pub set_in : List (List ℕ × ℕ) → SetText → List ℕ × Option ℕ × Option ℕ
set_in names set = (set.name, option_map (number_of names) set.power_net, option_map (number_of names) set.ground_net)
