-- UPF (IEEE 1801): what the lexemes before a place make of it, and the words that no text which is accepted has.
use Rattle.std.specs.Prelude.{ℕ, ◌==◌, ◌+◌, ◌-◌, Bool, true, false, not, ◌&&◌, ◌||◌, List, [], ◌∷◌, codes, if◌then◌else◌}
use Rattle.std.specs.Str.{bytes_eq}
use Rattle.pe_base.specs.Names.{has_name}
use Rattle.pe_text.specs.declared.token.Kind.{Kind}
use Rattle.pe_text.specs.declared.token.Kind.TheVariants.{Word, Escaped, Number, Text, Mark, End}
use Rattle.pe_text.specs.declared.command.Form.{Form}
use Rattle.pe_text.specs.declared.command.Form.TheVariants.{Plain, Ignored, Switch}
use Rattle.pe_text.specs.declared.command.Command.{Command}
use Rattle.pe_text.specs.Lexemes.{Lexeme}

-- commands that are left out
abbrev pub left_out_commands : List (List ℕ)
left_out_commands =
    codes "source" ∷ codes "load_upf" ∷ codes "set_scope" ∷ codes "set" ∷ codes "foreach" ∷ codes "if" ∷ codes "proc"
    ∷ codes "create_logic_port" ∷ codes "create_logic_net" ∷ codes "connect_logic_net" ∷ codes "set_isolation_control"
    ∷ codes "set_retention_control" ∷ codes "set_retention_elements" ∷ codes "map_isolation_cell" ∷ codes "map_level_shifter_cell"
    ∷ codes "use_interface_cell" ∷ codes "associate_supply_set" ∷ codes "describe_state_transition" ∷ codes "set_repeater"
    ∷ codes "create_composite_domain" ∷ codes "set_equivalent" ∷ codes "set_simstate_behavior" ∷ codes "set_port_attributes"
    ∷ codes "set_design_attributes" ∷ codes "add_power_state" ∷ []

-- options that are left out, in all commands but those that are ignored
abbrev pub left_out_options : List (List ℕ)
left_out_options =
    codes "-source" ∷ codes "-sink" ∷ codes "-diff_supply_only" ∷ codes "-resolve" ∷ codes "-update" ∷ codes "-scope"
    ∷ codes "-error_state" ∷ codes "-on_partial_state" ∷ codes "-ack_port" ∷ codes "-isolation_power_net"
    ∷ codes "-isolation_ground_net" ∷ codes "-retention_power_net" ∷ codes "-retention_ground_net" ∷ []

-- commands that are read with any words and have no effect
abbrev pub ignored_commands : List (List ℕ)
ignored_commands = codes "set_level_shifter" ∷ codes "map_retention_cell" ∷ codes "map_power_switch" ∷ []

abbrev pub form_of : List ℕ → Form
form_of word =
    if has_name ignored_commands word then Ignored
    else if bytes_eq word (codes "create_power_switch") then Switch
    else Plain

-- where a command could start
abbrev pub no_command : Command
no_command = record { is_start = true; form = Plain; braces = 0; has_on_state = false; has_input = false; is_state = false }

-- behind the first word of a command
abbrev pub begun : List ℕ → Command
begun word = record { is_start = false; form = form_of word; braces = 0; has_on_state = false; has_input = false; is_state = false }

-- behind a word outside braces
abbrev pub behind_word : Command → List ℕ → Command
behind_word c word = record {
  is_start = false;
  form = c.form;
  braces = 0;
  has_on_state = c.has_on_state || bytes_eq word (codes "-on_state");
  has_input = c.has_input || bytes_eq word (codes "-input_supply_port");
  is_state = bytes_eq word (codes "-on_state") || bytes_eq word (codes "-off_state");
}

-- behind a lexeme that is no word outside braces: so many braces are open then
abbrev pub behind_other : Command → ℕ → Bool → Command
behind_other c braces is_state = record {
  is_start = false;
  form = c.form;
  braces = braces;
  has_on_state = c.has_on_state;
  has_input = c.has_input;
  is_state = is_state;
}

abbrev pub behind_mark : Command → List ℕ → Command
behind_mark c mark =
    if bytes_eq mark (codes "{") then behind_other c (c.braces + 1) c.is_state
    else if bytes_eq mark (codes "}") then behind_other c (c.braces - 1) (c.is_state && not (c.braces - 1 == 0))
    else behind_other c c.braces (c.is_state && not (c.braces == 0))

-- what stands before the next lexeme
abbrev pub behind_command : Command → Kind → List ℕ → Command
behind_command c End bytes = no_command
behind_command c Mark bytes = behind_mark c bytes
behind_command c Word bytes =
    if c.is_start then begun bytes
    else if c.braces == 0 then behind_word c bytes
    else behind_other c c.braces c.is_state
behind_command c Text bytes = behind_other c c.braces (c.is_state && not (c.braces == 0))
behind_command c Escaped bytes = c
behind_command c Number bytes = c

abbrev pub is_switch : Form → Bool
is_switch Plain = false
is_switch Ignored = false
is_switch Switch = true

abbrev pub is_ignored : Form → Bool
is_ignored Plain = false
is_ignored Ignored = true
is_ignored Switch = false

-- a second state or input of a switch
abbrev pub is_second : Command → List ℕ → Bool
is_second c word =
    (c.has_on_state && bytes_eq word (codes "-on_state")) || (c.has_input && bytes_eq word (codes "-input_supply_port"))

-- an option that is left out
abbrev pub is_option_left_out : Command → List ℕ → Bool
is_option_left_out c word = has_name left_out_options word || (is_switch c.form && is_second c word)

-- a word that is left out: a command where one could start, or behind it an option outside braces
abbrev pub is_word_left_out : Command → List ℕ → Bool
is_word_left_out c word =
    if c.is_start then has_name left_out_commands word
    else if (c.braces == 0) && not (is_ignored c.form) then is_option_left_out c word
    else false

-- a `$`, and outside braces a `[`, stand for substitution
abbrev pub is_mark_left_out : List ℕ → Bool
is_mark_left_out mark = bytes_eq mark (codes "$") || bytes_eq mark (codes "[")

abbrev pub is_kind_left_out : Command → Kind → List ℕ → Bool
is_kind_left_out c Word bytes = is_word_left_out c bytes
is_kind_left_out c Mark bytes = is_mark_left_out bytes
is_kind_left_out c Escaped bytes = false
is_kind_left_out c Number bytes = false
is_kind_left_out c Text bytes = false
is_kind_left_out c End bytes = false

abbrev pub is_command_left_out : Command → Kind → List ℕ → List Lexeme → Bool
is_command_left_out c kind bytes ls = is_kind_left_out c kind bytes
