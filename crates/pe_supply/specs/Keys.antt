-- What states are looked up by.
use Rattle.std.specs.Prelude.{ℕ, ◌/◌, ◌%◌, cond, List, ◌∷◌}
use Rattle.pe_supply.specs.declared.plan.PortState.{PortState}
use Rattle.pe_supply.specs.declared.supplies.Level.{Level}
use Rattle.pe_supply.specs.declared.supplies.Level.TheVariants.{On, Off}
use Rattle.pe_supply.specs.Numbers.{number_of}

-- states of ports, and the names that tell the ports' supplies
pub record NamedStates : Type 0 where
  pub names : List (List ℕ × ℕ)
  pub states : List PortState

-- the number of a supply as four digits of base 256, the lowest first, and behind them a name
abbrev pub key_of : ℕ → List ℕ → List ℕ
key_of supply name = supply % 256 ∷ supply / 256 % 256 ∷ supply / 256 / 256 % 256 ∷ supply / 256 / 256 / 256 ∷ name

abbrev pub state_key : List (List ℕ × ℕ) → PortState → List ℕ
state_key names state = key_of (number_of names state.port) state.name

-- what a state says of its supply
abbrev pub said_by : PortState → Level
said_by state = cond state.on On Off

-- a state's key, and what the state says
abbrev pub keyed : List (List ℕ × ℕ) → PortState → List ℕ × Level
keyed names state = (state_key names state, said_by state)
