-- The pins of a cell by their groups, and the names that its functions may have.
use Rattle.std.specs.Prelude.{ℕ, cond, not, ◌&&◌, List, [], ◌++◌, map, take, Option, Some, None}
use Rattle.std.specs.List.{flat_map}
use Rattle.pe_liberty_read.specs.declared.tree.Group.{Group, out-Group}
use Rattle.pe_cells.specs.declared.cell.Pg.{Pg}
use Rattle.pe_cells.specs.Kinds.{is_pin, is_well, is_open, pgs_of}
use Rattle.pe_cells.specs.Form.{first_ff}

-- a signal pin: each name of its group is one
pub record Pin : Type 0 where
  pub name : List ℕ
  pub group : Group

abbrev pub pin_of : Group → List ℕ → Pin
pin_of g name = record { name = name; group = g }

abbrev pub pins_in : Group → List Pin
pins_in g = cond (is_pin g) (map (pin_of g) (out-Group g).args) []

-- the signal pins of a cell, in the order of the text
abbrev pub pins_of : List Group → List Pin
pins_of groups = flat_map pins_in groups

-- the names of the signal pins
abbrev pub signal_names_in : Group → List (List ℕ)
signal_names_in g = cond (is_pin g) (out-Group g).args []

abbrev pub signal_names : List Group → List (List ℕ)
signal_names groups = flat_map signal_names_in groups

-- what stands for a power or ground pin among the names of a function: its name, and where the name means a well, the empty
-- text, which no function names
abbrev pub pg_word : List Pg → Pg → List ℕ
pg_word pgs pg = cond (not (is_well pg.kind) && is_open pgs pg.name) pg.name []

abbrev pub pg_words : List Pg → List (List ℕ)
pg_words pgs = map (pg_word pgs) pgs

-- the names that a function over the pins alone may have: signal pins, then power and ground pins
abbrev pub pin_names : List Group → List (List ℕ)
pin_names groups = signal_names groups ++ pg_words (pgs_of groups)

-- the names of the register's two values
abbrev pub state_names : Option Group → List (List ℕ)
state_names None = []
state_names (Some ff) = take 2 (out-Group ff).args

-- the names that a function may have: those of the pins, and behind them IQ and IQN
abbrev pub all_names : List Group → List (List ℕ)
all_names groups = pin_names groups ++ state_names (first_ff groups)
