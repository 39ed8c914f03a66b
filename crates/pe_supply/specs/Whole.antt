-- The names that the lists of a plan speak of are made or used.
use Rattle.std.specs.Prelude.{◌≡◌, ◌⊎◌, ℕ, true, List, Contains}
use Rattle.std.specs.List.{All}
use Rattle.std.specs.Option.{ForSome}
use Rattle.pe_base.specs.Names.{has_name}
use Rattle.pe_supply.specs.declared.plan.Plan.{Plan}
use Rattle.pe_supply.specs.declared.plan.SetText.{SetText}
use Rattle.pe_supply.specs.declared.plan.SwitchText.{SwitchText}
use Rattle.pe_supply.specs.declared.plan.TableText.{TableText}
use Rattle.pe_supply.specs.declared.plan.Use.{Use}
use Rattle.pe_supply.specs.declared.plan.Use.TheVariants.{Supply, Port}
use Rattle.pe_supply.specs.Plans.{output_name}

-- a supply is used by this name
abbrev pub IsUsed : List Use → List ℕ → Type 0
IsUsed uses name = Contains uses (Supply name)

abbrev pub IsOutputMade : List (List ℕ) → SwitchText → Type 0
IsOutputMade names w = has_name names (output_name w.name w.output.0) ≡ true

abbrev pub IsInputUsed : List Use → SwitchText → Type 0
IsInputUsed uses w = IsUsed uses w.input.1

abbrev pub IsPortThere : List (List ℕ) → List Use → List ℕ × List ℕ → Type 0
IsPortThere names uses tie = (has_name names tie.0 ≡ true) ⊎ Contains uses (Port tie.0)

abbrev pub IsNetUsed : List Use → List ℕ × List ℕ → Type 0
IsNetUsed uses tie = IsUsed uses tie.1

abbrev pub IsSetUsed : List Use → SetText → Type 0
IsSetUsed uses set = ForSome set.power_net (IsUsed uses) × ForSome set.ground_net (IsUsed uses)

abbrev pub IsTableUsed : List Use → TableText → Type 0
IsTableUsed uses table = All (IsUsed uses) table.supplies

-- what the first plan speaks of, the second makes or uses
pub record IsWithin (p q : Plan) : Type 0 where
  pub outputs : All (IsOutputMade q.names) p.switches
  pub inputs : All (IsInputUsed q.uses) p.switches
  pub ports : All (IsPortThere q.names q.uses) p.ties
  pub nets : All (IsNetUsed q.uses) p.ties
  pub sets : All (IsSetUsed q.uses) p.sets
  pub tables : All (IsTableUsed q.uses) p.tables

-- what a plan speaks of it makes or uses, and its ports are names
pub record IsWhole (p : Plan) : Type 0 where
  pub within : IsWithin p p
  pub ports : (name : List ℕ) → has_name p.ports name ≡ true → has_name p.names name ≡ true
