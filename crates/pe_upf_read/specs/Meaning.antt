-- The tree that a derivation is.
use Rattle.std.specs.Prelude.{ℕ, ◌==◌, ◌||◌, Bool, List, map, if◌then◌else◌}
use Rattle.std.specs.Option.{option_map}
use Rattle.pe_grammar.specs.Derivation.{Derivation}
use Rattle.pe_text.specs.declared.token.Token.{Token}
use Rattle.pe_upf_read.specs.declared.intent.Command.{Command}
use Rattle.pe_upf_read.specs.declared.intent.Command.TheVariants.{UpfVersion, SetDesignTop, CreatePowerDomain, CreateSupplyPort, CreateSupplyNet, ConnectSupplyNet, CreateSupplySet, SetDomainSupplyNet, CreatePowerSwitch, AddPortState, CreatePst, AddPstState, SetIsolation, SetRetention, Ignored}
use Rattle.pe_upf_read.specs.declared.intent.Intent.{Intent}
use Rattle.pe_upf_read.specs.declared.table.TheConstants as table
use Rattle.pe_upf_read.specs.Names.{name_of, names_of, piece_of}
use Rattle.pe_upf_read.specs.Parts.{bare, behind, part, head_of, each, find, all}
use Rattle.pe_upf_read.specs.Options.{needed, has, name_under, names_under, set_of, two_of, two_under, on_of, needed_on, off_of, state_of, flow_of, side_of, sense_of, control_of, roles}

-- each command, by its name and what stands behind the name
abbrev pub domain_of : List ℕ → List Token → List ℕ → List Derivation → Command
domain_of text tokens name ds =
    CreatePowerDomain name (names_under text tokens table.ELEMENTS ds) (has table.INCLUDE_SCOPE ds) (option_map (set_of text tokens) (find table.SUPPLY ds))

abbrev pub port_of : List ℕ → List Token → List ℕ → List Derivation → Command
port_of text tokens name ds =
    CreateSupplyPort name (option_map (λ d. flow_of (head_of d)) (find table.DIRECTION ds)) (name_under text tokens table.DOMAIN ds)

abbrev pub net_of : List ℕ → List Token → List ℕ → List Derivation → Command
net_of text tokens name ds = CreateSupplyNet name (name_under text tokens table.DOMAIN ds) (has table.REUSE ds)

abbrev pub set_command_of : List ℕ → List Token → List ℕ → List Derivation → Command
set_command_of text tokens name ds = CreateSupplySet name (name_under text tokens table.POWER ds) (name_under text tokens table.GROUND ds)

abbrev pub primary_of : List ℕ → List Token → List ℕ → List Derivation → Command
primary_of text tokens name ds =
    SetDomainSupplyNet name (name_under text tokens table.PRIMARY_POWER_NET ds) (name_under text tokens table.PRIMARY_GROUND_NET ds)

abbrev pub switch_of : List ℕ → List Token → List ℕ → List Derivation → Command
switch_of text tokens name ds =
    CreatePowerSwitch
    name
    (name_under text tokens table.DOMAIN ds)
    (two_under text tokens table.OUTPUT_SUPPLY_PORT ds)
    (two_under text tokens table.INPUT_SUPPLY_PORT ds)
    (map (two_of text tokens) (all table.CONTROL_PORT ds))
    (needed_on (option_map (on_of text tokens) (find table.ON_STATE ds)))
    (map (off_of text tokens) (all table.OFF_STATE ds))

abbrev pub port_states_of : List ℕ → List Token → List ℕ → List Derivation → Command
port_states_of text tokens port ds = AddPortState port (map (state_of text tokens) (all table.STATE ds))

abbrev pub row_of : List ℕ → List Token → List ℕ → List Derivation → Command
row_of text tokens name ds = AddPstState name (needed (name_under text tokens table.PST ds)) (needed (names_under text tokens table.STATE ds))

abbrev pub isolation_of : List ℕ → List Token → List ℕ → List Derivation → Command
isolation_of text tokens name ds =
    SetIsolation
    name
    (needed (name_under text tokens table.DOMAIN ds))
    (option_map (λ d. side_of (head_of d)) (find table.APPLIES_TO ds))
    (names_under text tokens table.ELEMENTS ds)
    (name_under text tokens table.CLAMP_VALUE ds)
    (name_under text tokens table.ISOLATION_SIGNAL ds)
    (option_map (λ d. sense_of (head_of d)) (find table.ISOLATION_SENSE ds))
    (name_under text tokens table.ISOLATION_SUPPLY ds)
    (name_under text tokens table.LOCATION ds)
    (has table.NO_ISOLATION ds)

abbrev pub retention_of : List ℕ → List Token → List ℕ → List Derivation → Command
retention_of text tokens name ds =
    SetRetention
    name
    (needed (name_under text tokens table.DOMAIN ds))
    (names_under text tokens table.ELEMENTS ds)
    (name_under text tokens table.RETENTION_SUPPLY ds)
    (option_map (control_of text tokens) (find table.SAVE_SIGNAL ds))
    (option_map (control_of text tokens) (find table.RESTORE_SIGNAL ds))

-- a command that begins with this word, by its name and what stands behind the name
unfoldable pub named_command : List ℕ → List Token → ℕ → List ℕ → Derivation → Command
named_command text tokens k name d =
    if k == table.UPF_VERSION then UpfVersion name
    else if k == table.SET_DESIGN_TOP then SetDesignTop name
    else if k == table.CREATE_POWER_DOMAIN then domain_of text tokens name (each d)
    else if k == table.CREATE_SUPPLY_PORT then port_of text tokens name (each d)
    else if k == table.CREATE_SUPPLY_NET then net_of text tokens name (each d)
    else if k == table.CONNECT_SUPPLY_NET then ConnectSupplyNet name (names_of text tokens (behind 1 d))
    else if k == table.CREATE_SUPPLY_SET then set_command_of text tokens name (roles d)
    else if k == table.SET_DOMAIN_SUPPLY_NET then primary_of text tokens name (each d)
    else if k == table.CREATE_POWER_SWITCH then switch_of text tokens name (each d)
    else if k == table.ADD_PORT_STATE then port_states_of text tokens name (each d)
    else if k == table.CREATE_PST then CreatePst name (names_of text tokens (behind 1 d))
    else if k == table.ADD_PST_STATE then row_of text tokens name (each d)
    else if k == table.SET_ISOLATION then isolation_of text tokens name (each d)
    else retention_of text tokens name (each d)

abbrev pub is_ignored : ℕ → Bool
is_ignored k = (k == table.SET_LEVEL_SHIFTER) || (k == table.MAP_RETENTION_CELL) || (k == table.MAP_POWER_SWITCH)

-- a command whose words have no effect
abbrev pub ignored_of : List ℕ → List Token → Derivation → Command
ignored_of text tokens d = Ignored (name_of text tokens (part 0 d)) (map (piece_of text tokens) (each (behind 1 d)))

unfoldable pub command_of : List ℕ → List Token → Derivation → Command
command_of text tokens d =
    let c = bare d in
    if is_ignored (head_of c) then ignored_of text tokens c
    else named_command text tokens (head_of c) (name_of text tokens (part 1 c)) (behind 2 c)

-- the command of a line
abbrev pub line_of : List ℕ → List Token → Derivation → Command
line_of text tokens d = command_of text tokens (part 0 d)

unfoldable pub intent_of : List ℕ → List Token → Derivation → Intent
intent_of text tokens d = record { commands = map (line_of text tokens) (each (behind 1 d)) }
