-- How many parentheses and leading marks are open at once. A leading mark is open until its operand ends: one directly before
-- a parenthesis until that closes.
use Rattle.std.specs.Prelude.{ℕ, ◌+◌, nat_lt, cond, List, [], ◌∷◌, Option, Some, None}
use Rattle.pe_grammar.specs.declared.terminal.Token.{Token}
use Rattle.pe_bool_expr.specs.declared.style.Style.{Style}
use Rattle.pe_bool_expr.specs.declared.terminal.Role.{Role}
use Rattle.pe_bool_expr.specs.declared.terminal.Role.TheVariants.{Leading, Opening, Closing}
use Rattle.pe_bool_expr.specs.Terminals.{role_of}

-- how many are open, how many will be where the operand that is being read ends, and the same for each parenthesis that is
-- open, the innermost first
pub record Opened : Type 0 where
  pub now : ℕ
  pub behind : ℕ
  pub outer : List ℕ

-- behind the parenthesis that closes
abbrev pub closed : List ℕ → Opened
closed [] = record { now = 0; behind = 0; outer = [] }
closed (n ∷ outer) = record { now = n; behind = n; outer = outer }

-- with a further token, which is open itself if it opens
abbrev pub opened_with : Role → Opened → Opened
opened_with Leading o = record { now = o.now + 1; behind = o.behind; outer = o.outer }
opened_with Opening o = record { now = o.now + 1; behind = o.now + 1; outer = o.behind ∷ o.outer }
opened_with Closing o = closed o.outer
opened_with _ o = record { now = o.behind; behind = o.behind; outer = o.outer }

-- the first token at which more than 64 are open
abbrev pub deep_from : Style → Opened → List Token → Option Token
deep_from style o [] = None
deep_from style o (t ∷ ts) =
    cond (nat_lt 64 (opened_with (role_of style t.kind) o).now) (Some t) (deep_from style (opened_with (role_of style t.kind) o) ts)

abbrev pub first_deep : Style → List Token → Option Token
first_deep style tokens = deep_from style (record { now = 0; behind = 0; outer = [] }) tokens
