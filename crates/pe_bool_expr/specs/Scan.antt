-- What a text of a grammar may go on with, behind some of its tokens: an operand or what stands behind one, and how many
-- parentheses are open. That this is what the grammars say is proved.
use Rattle.std.specs.Prelude.{ℕ, zero, suc, List, [], ◌∷◌, Option, Some, None}
use Rattle.pe_grammar.specs.declared.terminal.Token.{Token}
use Rattle.pe_bool_expr.specs.declared.scan.Expected.{Expected}
use Rattle.pe_bool_expr.specs.declared.scan.Expected.TheVariants as expected
use Rattle.pe_bool_expr.specs.declared.scan.State.{State}
use Rattle.pe_bool_expr.specs.declared.style.Style.{Style}
use Rattle.pe_bool_expr.specs.declared.style.Style.TheVariants.{Liberty, Upf}
use Rattle.pe_bool_expr.specs.declared.terminal.Role.{Role}
use Rattle.pe_bool_expr.specs.declared.terminal.Role.TheVariants.{Leading, Opening, Closing, Operand, Trailing, Joining}
use Rattle.pe_bool_expr.specs.Terminals.{role_of}

-- an operand is expected, and so many parentheses are open
abbrev pub before_operand : ℕ → State
before_operand depth = record { expected = expected.Operand; depth = depth }

-- an operand was read, and so many parentheses are open
abbrev pub behind_operand : ℕ → State
behind_operand depth = record { expected = expected.Operator; depth = depth }

-- behind the token with which an operand begins
abbrev pub begun : Role → ℕ → Option State
begun Leading depth = Some (before_operand depth)
begun Opening depth = Some (before_operand (suc depth))
begun Operand depth = Some (behind_operand depth)
begun Closing depth = None
begun Trailing depth = None
begun Joining depth = None

-- behind a further operand's first token: in Liberty two operands may stand side by side
abbrev pub begun_beside : Style → Role → ℕ → Option State
begun_beside Liberty role depth = begun role depth
begun_beside Upf role depth = None

-- behind the parenthesis that closes
abbrev pub closed_in : ℕ → Option State
closed_in zero = None
closed_in (suc depth) = Some (behind_operand depth)

-- behind the token that stands behind an operand
abbrev pub gone_on : Style → Role → ℕ → Option State
gone_on style Leading depth = begun_beside style Leading depth
gone_on style Opening depth = begun_beside style Opening depth
gone_on style Operand depth = begun_beside style Operand depth
gone_on style Closing depth = closed_in depth
gone_on style Trailing depth = Some (behind_operand depth)
gone_on style Joining depth = Some (before_operand depth)

-- behind a token that does this
abbrev pub behind_at : Style → Role → Expected → ℕ → Option State
behind_at style role expected.Operand depth = begun role depth
behind_at style role expected.Operator depth = gone_on style role depth

abbrev pub behind : Style → Role → State → Option State
behind style role state = behind_at style role state.expected state.depth

abbrev pub behind_some : Style → Role → Option State → Option State
behind_some style role None = None
behind_some style role (Some state) = behind style role state

-- behind all of these tokens
abbrev pub behind_all : Style → Option State → List Token → Option State
behind_all style state [] = state
behind_all style state (t ∷ ts) = behind_all style (behind_some style (role_of style t.kind) state) ts
