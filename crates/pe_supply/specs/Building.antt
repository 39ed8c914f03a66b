-- The supplies of an intent, and why an intent has none.
use Rattle.std.specs.Prelude.{◌≡◌, ◌≢◌, ◌⊎◌, ℕ, ◌<◌, ◌≤◌, List, [], ◌∷◌, length, map, Some, None, Result, Ok, Err, Any}
use Rattle.std.specs.List.{All, AllZip}
use Rattle.pe_bool_expr.specs.declared.expr.Expr.{Expr}
use Rattle.pe_bool_expr.specs.declared.fault.ExprFault.{ExprFault}
use Rattle.pe_bool_expr.specs.declared.style.Style.TheVariants.{Upf}
use Rattle.pe_bool_expr.specs.Reading.{IsFunction, IsOutcome as IsReading}
use Rattle.pe_upf_read.specs.declared.intent.Intent.{Intent}
use Rattle.pe_supply.specs.declared.fault.SupplyFault.{SupplyFault}
use Rattle.pe_supply.specs.declared.fault.SupplyFault.TheVariants.{Memory, NoSupply, TwoDrivers, TwoNets, SupplyLoop, Expression, NoRows, TwoTables, RowLength, NoState, TooManyRows, TooManySupplies}
use Rattle.pe_supply.specs.declared.plan.Plan.{Plan}
use Rattle.pe_supply.specs.declared.plan.SwitchText.{SwitchText}
use Rattle.pe_supply.specs.declared.supplies.Supplies.{Supplies}
use Rattle.pe_supply.specs.declared.supplies.Switch.{Switch}
use Rattle.pe_supply.specs.Drivers.{edge_of, edges_of, first_driven_twice, first_elsewhere, roots_in, IsLooped, IsFirstLooped}
use Rattle.pe_supply.specs.Numbers.{AreNumbered, first_name, supply_count}
use Rattle.pe_supply.specs.Plans.{plan_of}
use Rattle.pe_supply.specs.Steps.{told}
use Rattle.pe_supply.specs.Tables.{columns, second_table, first_unlike, table_in, first_unknown, row_in, set_in}
use Rattle.pe_supply.specs.Uses.{first_missing}

-- the names of a switch's control ports
abbrev pub controls_of : SwitchText → List (List ℕ)
controls_of w = map (λ c. c.0) w.controls

-- the text is a boolean function over the names
abbrev pub IsRead : List (List ℕ) → List ℕ → Type 0
IsRead names text = (e : Expr) × IsFunction Upf names text e

-- it is none
abbrev pub IsUnread : List (List ℕ) → List ℕ → Type 0
IsUnread names text = (f : ExprFault) × IsReading Upf names text (Err f)

-- each expression of the switch is a function over its control ports
abbrev pub AreRead : SwitchText → Type 0
AreRead w = IsRead (controls_of w) w.on × All (IsRead (controls_of w)) w.off

-- one of them is none
abbrev pub IsRefusedSwitch : SwitchText → Type 0
IsRefusedSwitch w = IsUnread (controls_of w) w.on ⊎ Any (IsUnread (controls_of w)) w.off

-- the name is that of the first such switch
abbrev pub IsFirstRefused : List SwitchText → List ℕ → Type 0
IsFirstRefused [] name = ⊥
IsFirstRefused (w ∷ ws) name = (IsRefusedSwitch w × (name ≡ w.name)) ⊎ (AreRead w × IsFirstRefused ws name)

-- what no refusal holds of, one after the other: everything that is used is made, and the names have these numbers
pub record AreNamed (p : Plan) (names : List (List ℕ × ℕ)) : Type 0 where
  pub made : first_missing p ≡ None
  pub numbered : AreNumbered p.names p.ties names

-- no two outputs of switches are names of one supply
pub record AreDriven (p : Plan) (names : List (List ℕ × ℕ)) : Type 0 where
  pub named : AreNamed p names
  pub once : first_driven_twice names (edges_of names p.switches) ≡ None

-- no port is on two nets
pub record AreOnNets (p : Plan) (names : List (List ℕ × ℕ)) : Type 0 where
  pub driven : AreDriven p names
  pub one : first_elsewhere p.nets [] p.ties ≡ None

-- no supply reaches itself
pub record AreFed (p : Plan) (names : List (List ℕ × ℕ)) : Type 0 where
  pub on_nets : AreOnNets p names
  pub apart : (i : ℕ) → IsLooped (edges_of names p.switches) i → ⊥

-- the expressions of switches are functions
pub record HaveFunctions (p : Plan) (names : List (List ℕ × ℕ)) : Type 0 where
  pub fed : AreFed p names
  pub read : All AreRead p.switches

-- there are rows
pub record HaveRows (p : Plan) (names : List (List ℕ × ℕ)) : Type 0 where
  pub functions : HaveFunctions p names
  pub some : p.rows ≢ []

-- there is no second table
pub record HaveTable (p : Plan) (names : List (List ℕ × ℕ)) : Type 0 where
  pub rows : HaveRows p names
  pub one : second_table p.tables ≡ None

-- each row is as long as the table
pub record AreLong (p : Plan) (names : List (List ℕ × ℕ)) : Type 0 where
  pub table : HaveTable p names
  pub long : first_unlike (length (columns p.tables)) p.rows ≡ None

-- each word of a row is a state
pub record HaveStates (p : Plan) (names : List (List ℕ × ℕ)) : Type 0 where
  pub long : AreLong p names
  pub states : first_unknown names p.states (table_in names p.tables) p.rows ≡ None

-- the rows are few
pub record AreFewRows (p : Plan) (names : List (List ℕ × ℕ)) : Type 0 where
  pub states : HaveStates p names
  pub few : length p.rows ≤ 64

-- the supplies are few: nothing is refused
pub record AreFew (p : Plan) (names : List (List ℕ × ℕ)) : Type 0 where
  pub rows : AreFewRows p names
  pub few : supply_count names ≤ 64

-- a fault with the first name of the first supply that reaches itself
pub record IsLoopName (names : List (List ℕ × ℕ)) (edges : List (ℕ × ℕ)) (name : List ℕ) : Type 0 where
  pub supply : ℕ
  pub first : IsFirstLooped edges supply
  pub is : name ≡ first_name names supply

abbrev pub IsTwoDrivers : Plan → List ℕ → Type 0
IsTwoDrivers p name = (names : List (List ℕ × ℕ)) × AreNamed p names × (first_driven_twice names (edges_of names p.switches) ≡ Some name)

abbrev pub IsTwoNets : Plan → List ℕ → Type 0
IsTwoNets p port = (names : List (List ℕ × ℕ)) × AreDriven p names × (first_elsewhere p.nets [] p.ties ≡ Some port)

abbrev pub IsSupplyLoop : Plan → List ℕ → Type 0
IsSupplyLoop p name = (names : List (List ℕ × ℕ)) × AreOnNets p names × IsLoopName names (edges_of names p.switches) name

abbrev pub IsExpression : Plan → List ℕ → Type 0
IsExpression p name = (names : List (List ℕ × ℕ)) × AreFed p names × IsFirstRefused p.switches name

abbrev pub IsNoRows : Plan → Type 0
IsNoRows p = (names : List (List ℕ × ℕ)) × HaveFunctions p names × (p.rows ≡ [])

abbrev pub IsTwoTables : Plan → List ℕ → Type 0
IsTwoTables p name = (names : List (List ℕ × ℕ)) × HaveRows p names × (second_table p.tables ≡ Some name)

abbrev pub IsRowLength : Plan → List ℕ → Type 0
IsRowLength p name = (names : List (List ℕ × ℕ)) × HaveTable p names × (first_unlike (length (columns p.tables)) p.rows ≡ Some name)

abbrev pub IsNoState : Plan → List ℕ → Type 0
IsNoState p name = (names : List (List ℕ × ℕ)) × AreLong p names × (first_unknown names p.states (table_in names p.tables) p.rows ≡ Some name)

abbrev pub IsTooManyRows : Plan → ℕ → Type 0
IsTooManyRows p count = (names : List (List ℕ × ℕ)) × HaveStates p names × (64 < length p.rows) × (count ≡ told (length p.rows))

abbrev pub IsTooManySupplies : Plan → ℕ → Type 0
IsTooManySupplies p count = (names : List (List ℕ × ℕ)) × AreFewRows p names × (64 < supply_count names) × (count ≡ told (supply_count names))

-- a switch as it is written, with numbers for its supplies and functions for its expressions
pub record IsSwitchOf (names : List (List ℕ × ℕ)) (text : SwitchText) (w : Switch) : Type 0 where
  pub name : w.name ≡ text.name
  pub edge : (w.output, w.input) ≡ edge_of names text
  pub controls : w.controls ≡ text.controls
  pub on : IsFunction Upf (controls_of text) text.on w.on
  pub off : AllZip (IsFunction Upf (controls_of text)) text.off w.off

-- the supplies that a plan has
pub record AreSupplies (p : Plan) (s : Supplies) : Type 0 where
  pub few : AreFew p s.names
  pub roots : s.roots ≡ roots_in s.names (edges_of s.names p.switches)
  pub switches : AllZip (IsSwitchOf s.names) p.switches s.switches
  pub sets : s.sets ≡ map (set_in s.names) p.sets
  pub table : s.table ≡ table_in s.names p.tables
  pub rows : s.rows ≡ map (row_in s.names p.states (table_in s.names p.tables)) p.rows

-- the supplies that an intent has: no refusal holds of it
abbrev pub IsBuilt : Intent → Supplies → Type 0
IsBuilt intent s = AreSupplies (plan_of intent.commands) s

-- why an intent has none: the sentence of the refusal holds, and that of none before it
abbrev pub IsRefusal : Plan → SupplyFault → Type 0
IsRefusal p Memory = Unit {0}
IsRefusal p (NoSupply name) = first_missing p ≡ Some name
IsRefusal p (TwoDrivers name) = IsTwoDrivers p name
IsRefusal p (TwoNets port) = IsTwoNets p port
IsRefusal p (SupplyLoop name) = IsSupplyLoop p name
IsRefusal p (Expression name) = IsExpression p name
IsRefusal p NoRows = IsNoRows p
IsRefusal p (TwoTables name) = IsTwoTables p name
IsRefusal p (RowLength name) = IsRowLength p name
IsRefusal p (NoState name) = IsNoState p name
IsRefusal p (TooManyRows count) = IsTooManyRows p count
IsRefusal p (TooManySupplies count) = IsTooManySupplies p count

abbrev pub IsRefused : Intent → SupplyFault → Type 0
IsRefused intent fault = IsRefusal (plan_of intent.commands) fault

-- what is said of a plan by an answer; nothing but a lack of memory is said by Memory
abbrev pub Says : Plan → Result Supplies SupplyFault → Type 0
Says p (Ok s) = AreSupplies p s
Says p (Err Memory) = ⊥
Says p (Err (NoSupply name)) = first_missing p ≡ Some name
Says p (Err (TwoDrivers name)) = IsTwoDrivers p name
Says p (Err (TwoNets port)) = IsTwoNets p port
Says p (Err (SupplyLoop name)) = IsSupplyLoop p name
Says p (Err (Expression name)) = IsExpression p name
Says p (Err NoRows) = IsNoRows p
Says p (Err (TwoTables name)) = IsTwoTables p name
Says p (Err (RowLength name)) = IsRowLength p name
Says p (Err (NoState name)) = IsNoState p name
Says p (Err (TooManyRows count)) = IsTooManyRows p count
Says p (Err (TooManySupplies count)) = IsTooManySupplies p count

-- the outcome of an intent
abbrev pub IsOutcome : Intent → Result Supplies SupplyFault → Type 0
IsOutcome intent r = Says (plan_of intent.commands) r
