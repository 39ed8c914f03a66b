-- The terminals of the grammar that the tokens of a text are.
use Rattle.std.specs.Prelude.{ℕ, suc, List, [], ◌∷◌, codes, slice_range, if◌then◌else◌}
use Rattle.std.specs.List.{position_or_len}
use Rattle.std.specs.Str.{bytes_eq}
use Rattle.pe_grammar.specs.declared.terminal.Token.{Token as Terminal}
use Rattle.pe_text.specs.declared.token.Kind.{Kind}
use Rattle.pe_text.specs.declared.token.Kind.TheVariants.{Word, Text, Mark, End}
use Rattle.pe_text.specs.declared.token.Token.{Token}
use Rattle.pe_upf_read.specs.declared.table.TheConstants as table

-- the words that are terminals of their own: commands, options and words of options, in the order of their numbers
abbrev pub keywords : List (List ℕ)
keywords =
    codes "upf_version" ∷ codes "set_design_top" ∷ codes "create_power_domain" ∷ codes "create_supply_port"
    ∷ codes "create_supply_net" ∷ codes "connect_supply_net" ∷ codes "create_supply_set"
    ∷ codes "set_domain_supply_net" ∷ codes "create_power_switch" ∷ codes "add_port_state" ∷ codes "create_pst"
    ∷ codes "add_pst_state" ∷ codes "set_isolation" ∷ codes "set_retention" ∷ codes "set_level_shifter"
    ∷ codes "map_retention_cell" ∷ codes "map_power_switch" ∷ codes "-elements" ∷ codes "-include_scope"
    ∷ codes "-supply" ∷ codes "-direction" ∷ codes "-domain" ∷ codes "-reuse" ∷ codes "-ports" ∷ codes "-function"
    ∷ codes "-primary_power_net" ∷ codes "-primary_ground_net" ∷ codes "-output_supply_port"
    ∷ codes "-input_supply_port" ∷ codes "-control_port" ∷ codes "-on_state" ∷ codes "-off_state" ∷ codes "-state"
    ∷ codes "-supplies" ∷ codes "-pst" ∷ codes "-applies_to" ∷ codes "-clamp_value" ∷ codes "-isolation_signal"
    ∷ codes "-isolation_sense" ∷ codes "-isolation_supply" ∷ codes "-location" ∷ codes "-no_isolation"
    ∷ codes "-retention_supply" ∷ codes "-save_signal" ∷ codes "-restore_signal" ∷ codes "in" ∷ codes "out"
    ∷ codes "inputs" ∷ codes "outputs" ∷ codes "both" ∷ codes "high" ∷ codes "low" ∷ codes "posedge" ∷ codes "negedge"
    ∷ codes "power" ∷ codes "ground" ∷ codes "primary" ∷ []

-- the word that this one is read as: of two options that mean the same, and of which a command has one, it is the first
abbrev pub spelling_of : List ℕ → List ℕ
spelling_of word =
    if bytes_eq word (codes "-isolation_supply_set") then codes "-isolation_supply"
    else if bytes_eq word (codes "-retention_supply_set") then codes "-retention_supply"
    else word

-- the number of a word: its place among the keywords, and behind them WORD for all others
unfoldable pub number_of : List ℕ → ℕ
number_of word = position_or_len (λ keyword. bytes_eq keyword (spelling_of word)) keywords

abbrev pub mark_of : List ℕ → ℕ
mark_of mark = if bytes_eq mark (codes "{") then table.OPEN else if bytes_eq mark (codes "}") then table.CLOSE else table.OTHER

-- the terminal of a token with these bytes
abbrev pub terminal_of : Kind → List ℕ → ℕ
terminal_of Word bytes = number_of bytes
terminal_of Text bytes = table.TEXT
terminal_of Mark bytes = mark_of bytes
terminal_of End bytes = table.END
terminal_of _ bytes = table.OTHER

-- the tokens from number n on as terminals, each with its number; behind the last, an end, so that a text may leave it out
abbrev pub terminals_from : List ℕ → ℕ → List Token → List Terminal
terminals_from text n [] = record { kind = table.END; place = n } ∷ []
terminals_from text n (t ∷ ts) =
    record { kind = terminal_of t.kind (slice_range text t.span.from t.span.to); place = n } ∷ terminals_from text (suc n) ts

abbrev pub terminals_of : List ℕ → List Token → List Terminal
terminals_of text tokens = terminals_from text 0 tokens
