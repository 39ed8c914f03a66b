-- The functions of a supply set by the rule of the format, with no thought of how many tokens tell options apart: behind the
-- name of `create_supply_set` stand options
--     "-function" "{" "power" NAME "}"   and   "-function" "{" "ground" NAME "}"
-- in any order, each of the two at most once. A name is what the grammar takes for one.
use Rattle.std.specs.Prelude.{◌≡◌, ◌≢◌, ◌⊎◌, ℕ, ◌==◌, List, [], ◌∷◌, ◌++◌, Option, Some, None, if◌then◌else◌}
use Rattle.pe_grammar.specs.declared.terminal.Token.{Token as Terminal}
use Rattle.pe_grammar.specs.Derivation.{Derivation, text as terminals_in}
use Rattle.pe_grammar.specs.Written.{Written, rule, IsOf}
use Rattle.pe_text.specs.declared.token.Token.{Token}
use Rattle.pe_upf_read.specs.declared.intent.Command.{Command}
use Rattle.pe_upf_read.specs.declared.intent.Command.TheVariants.{CreateSupplySet}
use Rattle.pe_upf_read.specs.declared.table.TheConstants.{FUNCTION, POWER, GROUND, OPEN, CLOSE}
use Rattle.pe_upf_read.specs.Meaning.{set_command_of}
use Rattle.pe_upf_read.specs.Names.{name_in}
use Rattle.pe_upf_read.specs.Options.{roles}
use Rattle.pe_upf_read.specs.UpfGrammar.{upf_grammar}

-- the grammar's rules for the functions of a supply set and for a name
abbrev pub functions_rule : Written
functions_rule = rule 9

abbrev pub name_rule : Written
name_rule = rule 26

-- the terminals are a name
abbrev pub IsName : List Terminal → Type 0
IsName ts = (d : Derivation) × IsOf upf_grammar name_rule d × (terminals_in d ≡ ts)

abbrev pub IsRole : ℕ → Type 0
IsRole k = (k ≡ POWER) ⊎ (k ≡ GROUND)

-- no function has the role
abbrev pub IsFree : ℕ → List (ℕ × List ℕ) → Type 0
IsFree role [] = Unit {0}
IsFree role (f ∷ fs) = (f.0 ≢ role) × IsFree role fs

-- options, and the roles and names among them
pub data AreFunctions (text : List ℕ) (tokens : List Token) : List Terminal → List (ℕ × List ℕ) → Type 0 where
  no_function : AreFunctions text tokens [] []
  function : (option opening role : Terminal) (name : List Terminal) (close : Terminal) (ts : List Terminal) (fs : List (ℕ × List ℕ)) →
      option.kind ≡ FUNCTION → opening.kind ≡ OPEN → IsRole role.kind → IsName name → close.kind ≡ CLOSE →
      AreFunctions text tokens ts fs → IsFree role.kind fs →
      AreFunctions text tokens (option ∷ opening ∷ role ∷ (name ++ (close ∷ ts))) ((role.kind, name_in text tokens name) ∷ fs)

-- the name of the function with this role
abbrev pub named : ℕ → List (ℕ × List ℕ) → Option (List ℕ)
named role [] = None
named role (f ∷ fs) = if f.0 == role then Some f.1 else named role fs

-- behind this name the terminals make the command, by the rule of the format
abbrev pub IsSetByFormat : List ℕ → List Token → List ℕ → List Terminal → Command → Type 0
IsSetByFormat text tokens name ts c =
    (fs : List (ℕ × List ℕ)) × AreFunctions text tokens ts fs × (c ≡ CreateSupplySet name (named POWER fs) (named GROUND fs))

-- and by the grammar
abbrev pub IsSetByGrammar : List ℕ → List Token → List ℕ → List Terminal → Command → Type 0
IsSetByGrammar text tokens name ts c =
    (d : Derivation) × IsOf upf_grammar functions_rule d × (terminals_in d ≡ ts) × (c ≡ set_command_of text tokens name (roles d))
