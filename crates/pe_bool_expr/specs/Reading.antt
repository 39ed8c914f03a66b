-- The boolean function that a text is, and why a text is none.
use Rattle.std.specs.Prelude.{◌≡◌, ◌⊎◌, ℕ, ◌<◌, ◌≤◌, List, length, slice_get, Option, Some, None, Result, Ok, Err}
use Rattle.pe_grammar.specs.declared.terminal.Token.{Token as Terminal}
use Rattle.pe_grammar.specs.Derivation.{Derivation}
use Rattle.pe_grammar.specs.Grammar.{Spells, IsFault}
use Rattle.pe_text.specs.Cut.{IsCut, IsBadAt}
use Rattle.pe_text.specs.declared.token.Token.{Token}
use Rattle.pe_bool_expr.specs.declared.expr.Expr.{Expr}
use Rattle.pe_bool_expr.specs.declared.fault.ExprFault.{ExprFault}
use Rattle.pe_bool_expr.specs.declared.fault.ExprFault.TheVariants.{Memory, Syntax, NoName, Deep, Inputs}
use Rattle.pe_bool_expr.specs.declared.style.Style.{Style}
use Rattle.pe_bool_expr.specs.Functions.{different, pins_of}
use Rattle.pe_bool_expr.specs.Meaning.{level_of}
use Rattle.pe_bool_expr.specs.Names.{first_unknown, pins_for}
use Rattle.pe_bool_expr.specs.Nesting.{first_deep}
use Rattle.pe_bool_expr.specs.Styles.{class_of, table_of, operators}
use Rattle.pe_bool_expr.specs.Terminals.{terminals_from}

-- d is a derivation of the tokens
abbrev pub IsParse : Style → List ℕ → List Token → Derivation → Type 0
IsParse style text tokens d = Spells (table_of style) 0 (terminals_from style text 0 tokens) d

-- the tree of a derivation
abbrev pub tree_of : Style → List (List ℕ) → List ℕ → List Token → Derivation → Expr
tree_of style names text tokens d = level_of (operators style) (pins_for names text tokens) (operators style) d

-- where a token starts by its number, or where the text ends
abbrev pub start_in : List ℕ → Option Token → ℕ
start_in text None = length text
start_in text (Some t) = t.span.from

abbrev pub start_of : List ℕ → List Token → ℕ → ℕ
start_of text tokens n = start_in text (slice_get tokens n)

-- nothing is nested over 64
abbrev pub IsShallow : Style → List ℕ → List Token → Type 0
IsShallow style text tokens = first_deep style (terminals_from style text 0 tokens) ≡ None

-- the tokens are the function e over the names
pub record IsOf (style : Style) (names : List (List ℕ)) (text : List ℕ) (tokens : List Token) (e : Expr) : Type 0 where
  pub shallow : IsShallow style text tokens
  pub derivation : Derivation
  pub parsed : IsParse style text tokens derivation
  pub known : first_unknown names text tokens ≡ None
  pub is : e ≡ tree_of style names text tokens derivation
  pub few : length (different (pins_of e)) ≤ 10

-- with the token that starts at this byte the tokens before it can't be gone on with, or they end too early
pub record IsSyntax (style : Style) (text : List ℕ) (tokens : List Token) (at : ℕ) : Type 0 where
  pub number : ℕ
  pub fault : IsFault (table_of style) 0 (terminals_from style text 0 tokens) number
  pub is : at ≡ start_of text tokens number

-- the tokens have a derivation, and the first name that is not known starts at this byte
pub record IsNoName (style : Style) (names : List (List ℕ)) (text : List ℕ) (tokens : List Token) (at : ℕ) : Type 0 where
  pub derivation : Derivation
  pub parsed : IsParse style text tokens derivation
  pub unknown : first_unknown names text tokens ≡ Some at

-- the tokens have a derivation and their names are known, and the first token with which more than 64 are open starts at this byte
pub record IsDeep (style : Style) (names : List (List ℕ)) (text : List ℕ) (tokens : List Token) (at : ℕ) : Type 0 where
  pub derivation : Derivation
  pub parsed : IsParse style text tokens derivation
  pub known : first_unknown names text tokens ≡ None
  pub token : Terminal
  pub deep : first_deep style (terminals_from style text 0 tokens) ≡ Some token
  pub is : at ≡ start_of text tokens token.place

-- nothing is nested over 64, the names are known, and there are so many different ones, which is too many
pub record IsInputs (style : Style) (names : List (List ℕ)) (text : List ℕ) (tokens : List Token) (count : ℕ) : Type 0 where
  pub shallow : IsShallow style text tokens
  pub derivation : Derivation
  pub parsed : IsParse style text tokens derivation
  pub known : first_unknown names text tokens ≡ None
  pub is : count ≡ length (different (pins_of (tree_of style names text tokens derivation)))
  pub many : 10 < count

-- why the tokens are no function
abbrev pub IsRefused : Style → List (List ℕ) → List ℕ → List Token → ExprFault → Type 0
IsRefused style names text tokens Memory = Unit {0}
IsRefused style names text tokens (Syntax at) = IsSyntax style text tokens at
IsRefused style names text tokens (NoName at) = IsNoName style names text tokens at
IsRefused style names text tokens (Deep at) = IsDeep style names text tokens at
IsRefused style names text tokens (Inputs count) = IsInputs style names text tokens count

-- the text is the function e over the names
abbrev pub IsFunction : Style → List (List ℕ) → List ℕ → Expr → Type 0
IsFunction style names text e = (tokens : List Token) × IsCut (class_of style) text tokens × IsOf style names text tokens e

-- some token stands wrong, or no token stands there
abbrev pub IsSyntaxAt : Style → List ℕ → ℕ → Type 0
IsSyntaxAt style text at = IsBadAt (class_of style) text at ⊎ ((tokens : List Token) × IsCut (class_of style) text tokens × IsSyntax style text tokens at)

abbrev pub IsNoNameAt : Style → List (List ℕ) → List ℕ → ℕ → Type 0
IsNoNameAt style names text at = (tokens : List Token) × IsCut (class_of style) text tokens × IsNoName style names text tokens at

abbrev pub IsDeepAt : Style → List (List ℕ) → List ℕ → ℕ → Type 0
IsDeepAt style names text at = (tokens : List Token) × IsCut (class_of style) text tokens × IsDeep style names text tokens at

abbrev pub HasInputs : Style → List (List ℕ) → List ℕ → ℕ → Type 0
HasInputs style names text count = (tokens : List Token) × IsCut (class_of style) text tokens × IsInputs style names text tokens count

-- what is said of a text by an answer: which function it is, or why it is none; nothing but a lack of memory is said by Memory
abbrev pub IsOutcome : Style → List (List ℕ) → List ℕ → Result Expr ExprFault → Type 0
IsOutcome style names text (Ok e) = IsFunction style names text e
IsOutcome style names text (Err Memory) = ⊥
IsOutcome style names text (Err (Syntax at)) = IsSyntaxAt style text at
IsOutcome style names text (Err (NoName at)) = IsNoNameAt style names text at
IsOutcome style names text (Err (Deep at)) = IsDeepAt style names text at
IsOutcome style names text (Err (Inputs count)) = HasInputs style names text count

-- the answer is e, unless memory ran out
abbrev pub IsAnswered : Expr → Result Expr ExprFault → Type 0
IsAnswered e (Ok f) = f ≡ e
IsAnswered e (Err Memory) = Unit {0}
IsAnswered e (Err (Syntax at)) = ⊥
IsAnswered e (Err (NoName at)) = ⊥
IsAnswered e (Err (Deep at)) = ⊥
IsAnswered e (Err (Inputs count)) = ⊥
