-- Words, numbers and marks of Verilog (IEEE 1364) that no text which is accepted has.
use Rattle.std.specs.Prelude.{ℕ, ◌==◌, Bool, true, false, not, ◌&&◌, ◌||◌, List, [], ◌∷◌, codes, if◌then◌else◌}
use Rattle.std.specs.Str.{bytes_eq}
use Rattle.pe_base.specs.Names.{has_name}
use Rattle.pe_text.specs.declared.token.Kind.{Kind}
use Rattle.pe_text.specs.declared.token.Kind.TheVariants.{Word, Escaped, Number, Text, Mark, End}
use Rattle.pe_text.specs.declared.verilog_left_out.Before.{Before}
use Rattle.pe_text.specs.declared.verilog_left_out.Before.TheVariants.{Other, At, AtOpen}
use Rattle.pe_text.specs.Bytes.{has_first}
use Rattle.pe_text.specs.Lexemes.{Lexeme}

-- words that are left out in RTL and in netlists
abbrev pub verilog_words : List (List ℕ)
verilog_words =
    codes "signed" ∷ codes "integer" ∷ codes "real" ∷ codes "time" ∷ codes "genvar" ∷ codes "generate" ∷ codes "initial"
    ∷ codes "task" ∷ codes "function" ∷ codes "for" ∷ codes "while" ∷ codes "repeat" ∷ codes "forever" ∷ codes "casex"
    ∷ codes "tri" ∷ codes "triand" ∷ codes "trior" ∷ codes "tri0" ∷ codes "tri1" ∷ codes "trireg" ∷ codes "wand" ∷ codes "wor"
    ∷ codes "supply0" ∷ codes "supply1" ∷ codes "defparam" ∷ codes "specify" ∷ codes "primitive" ∷ codes "force"
    ∷ codes "release" ∷ codes "deassign" ∷ codes "fork" ∷ codes "join" ∷ codes "wait" ∷ codes "disable" ∷ codes "event"
    ∷ codes "and" ∷ codes "nand" ∷ codes "nor" ∷ codes "xor" ∷ codes "xnor" ∷ codes "not" ∷ codes "buf" ∷ codes "bufif0"
    ∷ codes "bufif1" ∷ codes "notif0" ∷ codes "notif1" ∷ []

-- in RTL besides
abbrev pub rtl_words : List (List ℕ)
rtl_words = codes "inout" ∷ []

-- in netlists besides
abbrev pub netlist_words : List (List ℕ)
netlist_words =
    codes "always" ∷ codes "reg" ∷ codes "parameter" ∷ codes "localparam" ∷ codes "posedge" ∷ codes "negedge" ∷ codes "if"
    ∷ codes "case" ∷ codes "casez" ∷ []

-- marks that are left out wherever they stand
abbrev pub verilog_marks : List (List ℕ)
verilog_marks =
    codes "/" ∷ codes "%" ∷ codes "**" ∷ codes "===" ∷ codes "!==" ∷ codes "<<<" ∷ codes ">>>" ∷ codes "+:" ∷ codes "-:" ∷ []

abbrev pub is_word_left_out : Bool → List ℕ → Bool
is_word_left_out netlist word = has_name verilog_words word || (if netlist then has_name netlist_words word else has_name rtl_words word)

-- the number has an s before its base: right behind its quote
abbrev pub is_signed : List ℕ → Bool
is_signed [] = false
is_signed (b ∷ bs) = if b == 39 then has_first 115 bs || has_first 83 bs else is_signed bs

-- `*` may stand here for all events: behind `@` or `@ (`
abbrev pub may_be_star : Before → Bool
may_be_star Other = false
may_be_star At = true
may_be_star AtOpen = true

abbrev pub is_at : Before → Bool
is_at Other = false
is_at At = true
is_at AtOpen = false

-- what stands before the next token
abbrev pub behind_verilog : Before → Kind → List ℕ → Before
behind_verilog before kind bytes =
    if bytes_eq bytes (codes "@") then At
    else if is_at before && bytes_eq bytes (codes "(") then AtOpen
    else Other

-- a directive that is not skipped, a mark that is left out, or a `*` that does not stand for all events
abbrev pub is_mark_left_out : Before → List ℕ → Bool
is_mark_left_out before mark =
    has_first 96 mark || has_name verilog_marks mark || (bytes_eq mark (codes "*") && not (may_be_star before))

abbrev pub is_kind_left_out : Bool → Before → Kind → List ℕ → Bool
is_kind_left_out netlist before Word bytes = is_word_left_out netlist bytes
is_kind_left_out netlist before Escaped bytes = false
is_kind_left_out netlist before Number bytes = is_signed bytes
is_kind_left_out netlist before Text bytes = false
is_kind_left_out netlist before Mark bytes = is_mark_left_out before bytes
is_kind_left_out netlist before End bytes = false

abbrev pub is_verilog_left_out : Bool → Before → Kind → List ℕ → List Lexeme → Bool
is_verilog_left_out netlist before kind bytes ls = is_kind_left_out netlist before kind bytes
