-- What the options of a command say. An option is told by the word that begins it.
use Rattle.std.specs.Prelude.{ℕ, ◌==◌, List, [], ◌∷◌, Bool, is_some, Option, Some, None, if◌then◌else◌}
use Rattle.std.specs.Option.{option_map}
use Rattle.pe_grammar.specs.Derivation.{Derivation}
use Rattle.pe_text.specs.declared.token.Token.{Token}
use Rattle.pe_upf_read.specs.declared.intent.Flow.{Flow}
use Rattle.pe_upf_read.specs.declared.intent.Flow.TheVariants.{Inward, Outward}
use Rattle.pe_upf_read.specs.declared.intent.Sense.{Sense}
use Rattle.pe_upf_read.specs.declared.intent.Sense.TheVariants.{High, Low, Posedge, Negedge}
use Rattle.pe_upf_read.specs.declared.intent.Side.{Side}
use Rattle.pe_upf_read.specs.declared.intent.Side.TheVariants.{Inputs, Outputs, Both}
use Rattle.pe_upf_read.specs.declared.table.TheConstants as table
use Rattle.pe_upf_read.specs.Names.{name_of, names_of, piece_of}
use Rattle.pe_upf_read.specs.Parts.{bare, behind, part, head_of, find}

-- a list where one is asked: none of a derivation without it, which no text has
abbrev pub needed : {A : Type 0} → Option (List A) → List A
needed None = []
needed (Some x) = x

-- the option is there
abbrev pub has : ℕ → List Derivation → Bool
has k ds = is_some (find k ds)

-- the option is a name
abbrev pub name_under : List ℕ → List Token → ℕ → List Derivation → Option (List ℕ)
name_under text tokens k ds = option_map (name_of text tokens) (find k ds)

-- the option is a list of names
abbrev pub names_under : List ℕ → List Token → ℕ → List Derivation → Option (List (List ℕ))
names_under text tokens k ds = option_map (names_of text tokens) (find k ds)

-- {primary SET}
abbrev pub set_of : List ℕ → List Token → Derivation → List ℕ
set_of text tokens d = name_of text tokens (part 2 d)

-- {NAME NAME}
abbrev pub two_of : List ℕ → List Token → Derivation → List ℕ × List ℕ
two_of text tokens d = (name_of text tokens (part 1 d), name_of text tokens (part 2 d))

abbrev pub needed_two : Option (List ℕ × List ℕ) → List ℕ × List ℕ
needed_two None = ([], [])
needed_two (Some x) = x

-- the option is two names in braces
abbrev pub two_under : List ℕ → List Token → ℕ → List Derivation → List ℕ × List ℕ
two_under text tokens k ds = needed_two (option_map (two_of text tokens) (find k ds))

-- {STATE PORT {EXPRESSION}}
abbrev pub on_of : List ℕ → List Token → Derivation → List ℕ × List ℕ × List ℕ
on_of text tokens d = (name_of text tokens (part 1 d), name_of text tokens (part 2 d), piece_of text tokens (part 3 d))

abbrev pub needed_on : Option (List ℕ × List ℕ × List ℕ) → List ℕ × List ℕ × List ℕ
needed_on None = ([], [], [])
needed_on (Some x) = x

-- {STATE {EXPRESSION}}
abbrev pub off_of : List ℕ → List Token → Derivation → List ℕ × List ℕ
off_of text tokens d = (name_of text tokens (part 1 d), piece_of text tokens (part 2 d))

-- {STATE WORDS}
abbrev pub state_of : List ℕ → List Token → Derivation → List ℕ × List (List ℕ)
state_of text tokens d = (name_of text tokens (part 1 d), names_of text tokens (part 2 d))

abbrev pub flow_of : ℕ → Flow
flow_of k = if k == table.OUT then Outward else Inward

abbrev pub side_of : ℕ → Side
side_of k = if k == table.INPUTS then Inputs else if k == table.OUTPUTS then Outputs else Both

abbrev pub sense_of : ℕ → Sense
sense_of k =
    if k == table.LOW then Low
    else if k == table.POSEDGE then Posedge
    else if k == table.NEGEDGE then Negedge
    else High

-- {SIGNAL SENSE}
abbrev pub control_of : List ℕ → List Token → Derivation → List ℕ × Sense
control_of text tokens d = (name_of text tokens (part 1 d), sense_of (head_of (part 2 d)))

-- the roles of the supply set's functions: that of the first, and that of the second behind it
unfoldable pub roles : Derivation → List Derivation
roles d = let first = bare (behind 2 (bare d)) in first ∷ behind 2 (bare (behind 3 first)) ∷ []
