-- What each command of an intent makes, ties, uses and says.
use Rattle.std.specs.Prelude.{ℕ, Bool, false, not, List, [], ◌∷◌, ◌++◌, map, codes, Option, Some, None}
use Rattle.std.specs.Str.{bytes_eq}
use Rattle.pe_upf_read.specs.declared.intent.Command.{Command}
use Rattle.pe_upf_read.specs.declared.intent.Command.TheVariants.{UpfVersion, SetDesignTop, CreatePowerDomain, CreateSupplyPort, CreateSupplyNet, ConnectSupplyNet, CreateSupplySet, SetDomainSupplyNet, CreatePowerSwitch, AddPortState, CreatePst, AddPstState, SetIsolation, SetRetention, Ignored}
use Rattle.pe_supply.specs.declared.plan.Plan.{Plan}
use Rattle.pe_supply.specs.declared.plan.PortState.{PortState}
use Rattle.pe_supply.specs.declared.plan.SwitchText.{SwitchText}
use Rattle.pe_supply.specs.declared.plan.Use.{Use}
use Rattle.pe_supply.specs.declared.plan.Use.TheVariants.{Supply, Port, Set, Table, Input}

abbrev pub no_plan : Plan
no_plan = record { names = []; ports = []; nets = []; ties = []; uses = []; sets = []; tables = []; states = []; rows = []; switches = [] }

-- the name of a switch's output port: of switch sw and port out it is sw/out
abbrev pub output_name : List ℕ → List ℕ → List ℕ
output_name switch port = switch ++ 47 ∷ port

-- the use of a name that may be written
abbrev pub given : (List ℕ → Use) → Option (List ℕ) → List Use
given as_use None = []
given as_use (Some name) = as_use name ∷ []

-- the value of a port's state is the one word off
abbrev pub is_off : List (List ℕ) → Bool
is_off (word ∷ []) = bytes_eq word (codes "off")
is_off _ = false

abbrev pub port_state : List ℕ → List ℕ × List (List ℕ) → PortState
port_state port state = record { port = port; name = state.0; on = not (is_off state.1) }

-- a port on a net
abbrev pub tie_to : List ℕ → List ℕ → List ℕ × List ℕ
tie_to net port = (port, net)

abbrev pub connect_plan : List ℕ → List (List ℕ) → Plan
connect_plan net ports = record no_plan { ties = map (tie_to net) ports; uses = Supply net ∷ map (λ port. Port port) ports }

abbrev pub set_plan : List ℕ → Option (List ℕ) → Option (List ℕ) → Plan
set_plan name power other = record no_plan { sets = record { name = name; power_net = power; ground_net = other } ∷ []; uses = given (λ n. Supply n) power ++ given (λ n. Supply n) other }

abbrev pub switch_plan : SwitchText → List ℕ → Plan
switch_plan switch port =
    let output = output_name switch.name switch.output.0 in
    record no_plan {
      names = output ∷ [];
      ports = output ∷ [];
      ties = (output, switch.output.1) ∷ [];
      uses = Supply switch.output.1 ∷ Supply switch.input.1 ∷ Input port switch.input.0 ∷ [];
      switches = switch ∷ [];
    }

-- a command
unfoldable pub plan_by : Command → Plan
plan_by (UpfVersion word) = no_plan
plan_by (SetDesignTop top) = no_plan
plan_by (CreatePowerDomain name elements scope primary) = record no_plan { uses = given (λ n. Set n) primary }
plan_by (CreateSupplyPort name direction domain) = record no_plan { names = name ∷ []; ports = name ∷ [] }
plan_by (CreateSupplyNet name domain reuse) = record no_plan { names = name ∷ []; nets = name ∷ [] }
plan_by (ConnectSupplyNet name ports) = connect_plan name ports
plan_by (CreateSupplySet name power other) = set_plan name power other
plan_by (SetDomainSupplyNet name power other) = record no_plan { uses = given (λ n. Supply n) power ++ given (λ n. Supply n) other }
plan_by (CreatePowerSwitch name domain output input controls on off) =
    switch_plan (record { name = name; output = output; input = input; controls = controls; on = on.2; off = map (λ state. state.1) off }) on.1
plan_by (AddPortState port states) = record no_plan { uses = Port port ∷ []; states = map (port_state port) states }
plan_by (CreatePst name supplies) = record no_plan { tables = record { name = name; supplies = supplies } ∷ []; uses = map (λ n. Supply n) supplies }
plan_by (AddPstState name table states) = record no_plan { rows = record { name = name; words = states } ∷ []; uses = Table table ∷ [] }
plan_by (SetIsolation name domain applies elements clamp signal sense supply location none) = record no_plan { uses = given (λ n. Set n) supply }
plan_by (SetRetention name domain elements supply save restore) = record no_plan { uses = given (λ n. Set n) supply }
plan_by (Ignored command words) = no_plan

-- and what more of them say
abbrev pub joined : Plan → Plan → Plan
joined p q = record {
  names = p.names ++ q.names;
  ports = p.ports ++ q.ports;
  nets = p.nets ++ q.nets;
  ties = p.ties ++ q.ties;
  uses = p.uses ++ q.uses;
  sets = p.sets ++ q.sets;
  tables = p.tables ++ q.tables;
  states = p.states ++ q.states;
  rows = p.rows ++ q.rows;
  switches = p.switches ++ q.switches;
}

-- the commands of an intent
unfoldable pub plan_of : List Command → Plan
plan_of [] = no_plan
plan_of (c ∷ cs) = joined (plan_by c) (plan_of cs)
