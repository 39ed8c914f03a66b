-- What a scan takes of a list of tokens, told by the lists that it is made of.
use Rattle.std.proofs.Common.{◌≡◌, ℕ, zero, suc, ◌+◌, ◌≤◌, arith, List, [], ◌∷◌, ◌++◌, Option, Some, None, refl, ap}
use Rattle.pe_grammar.specs.declared.terminal.Token.{Token}
use Rattle.pe_bool_expr.specs.declared.scan.Expected.{Expected}
use Rattle.pe_bool_expr.specs.declared.scan.Expected.TheVariants as expected
use Rattle.pe_bool_expr.specs.declared.scan.State.{State}
use Rattle.pe_bool_expr.specs.declared.style.Style.{Style}
use Rattle.pe_bool_expr.specs.declared.style.Style.TheVariants.{Liberty, Upf}
use Rattle.pe_bool_expr.specs.declared.terminal.Role.{Role}
use Rattle.pe_bool_expr.specs.declared.terminal.Role.TheVariants.{Leading, Opening, Closing, Operand, Trailing, Joining}
use Rattle.pe_bool_expr.specs.Scan.{before_operand, behind_operand, begun, begun_beside, closed_in, gone_on, behind_at, behind, behind_some, behind_all}
use Rattle.pe_bool_expr.specs.Terminals.{role_of}

-- behind the tokens a whole text may end
abbrev pub Ends : Style → Option State → List Token → Type 0
Ends style state tokens = behind_all style state tokens ≡ Some (behind_operand 0)

pub behind_none : (style : Style) (tokens : List Token) → behind_all style None tokens ≡ None
behind_none style [] = refl
behind_none style (t ∷ ts) = behind_none style ts

pub behind_append : (style : Style) (state : Option State) (xs ys : List Token) → behind_all style state (xs ++ ys) ≡ behind_all style (behind_all style state xs) ys
behind_append style state [] ys = refl
behind_append style state (t ∷ ts) ys = behind_append style (behind_some style (role_of style t.kind) state) ts ys

pub no_end : {A : Type 0} (style : Style) (tokens : List Token) → Ends style None tokens → A
no_end style tokens h = let e = behind_none style tokens in absurd (cc)

-- where an operand may begin behind another, what begins with one may stand behind another
beside_token : (role : Role) (depth : ℕ) (ts : List Token) → Ends Liberty (begun role depth) ts → Ends Liberty (gone_on Liberty role depth) ts
beside_token Leading depth ts h = h
beside_token Opening depth ts h = h
beside_token Operand depth ts h = h
beside_token Closing depth ts h = no_end Liberty ts h
beside_token Trailing depth ts h = no_end Liberty ts h
beside_token Joining depth ts h = no_end Liberty ts h

pub beside : (depth : ℕ) (tokens : List Token) → Ends Liberty (Some (before_operand depth)) tokens → Ends Liberty (Some (behind_operand depth)) tokens
beside depth [] h = let e : before_operand depth ≡ behind_operand 0 = cc in let f = ap (λ s. s.expected) e in cc
beside depth (t ∷ ts) h = beside_token (role_of Liberty t.kind) depth ts h

-- how many parentheses are open
abbrev depth_in : Option State → ℕ
depth_in None = 0
depth_in (Some state) = state.depth

begun_low : (role : Role) (n : ℕ) → depth_in (begun role n) ≤ n + 1
begun_low Leading n = omega arith
begun_low Opening n = omega arith
begun_low Operand n = omega arith
begun_low _ n = omega arith

closed_low : (n : ℕ) → depth_in (closed_in n) ≤ n + 1
closed_low zero = omega arith
closed_low (suc n) = omega arith

beside_low : (style : Style) (role : Role) (n : ℕ) → depth_in (begun_beside style role n) ≤ n + 1
beside_low Liberty role n = begun_low role n
beside_low Upf role n = omega arith

behind_low : (style : Style) (role : Role) (e : Expected) (n : ℕ) → depth_in (behind_at style role e n) ≤ n + 1
behind_low style role expected.Operand n = begun_low role n
behind_low style Leading expected.Operator n = beside_low style Leading n
behind_low style Opening expected.Operator n = beside_low style Opening n
behind_low style Operand expected.Operator n = beside_low style Operand n
behind_low style Closing expected.Operator n = closed_low n
behind_low style _ expected.Operator n = omega arith

-- one token opens at most one
pub depth_behind : (style : Style) (role : Role) (state next : State) → behind style role state ≡ Some next → next.depth ≤ state.depth + 1
depth_behind style role state next h = omega (arith, ap depth_in h, behind_low style role state.expected state.depth)
