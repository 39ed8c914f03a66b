-- The names of a text as pins: each name is the first place that it has among the names.
use Rattle.std.specs.Prelude.{ℕ, Bool, true, cond, List, [], ◌∷◌, map, Option, Some, None}
use Rattle.pe_base.specs.Names.{has_name, place_of}
use Rattle.pe_text.specs.declared.token.Kind.{Kind}
use Rattle.pe_text.specs.declared.token.Kind.TheVariants.{Word}
use Rattle.pe_text.specs.declared.token.Token.{Token}
use Rattle.pe_bool_expr.specs.Terminals.{bytes_of}

-- the token is among the names, or is no name
abbrev pub is_known : List (List ℕ) → Kind → List ℕ → Bool
is_known names Word bytes = has_name names bytes
is_known names _ bytes = true

-- where the first name starts that is not known
abbrev pub first_unknown : List (List ℕ) → List ℕ → List Token → Option ℕ
first_unknown names text [] = None
first_unknown names text (t ∷ ts) = cond (is_known names t.kind (bytes_of text t)) (first_unknown names text ts) (Some t.span.from)

-- the pin of a name; other tokens have none, and 0 stands for it
abbrev pub pin_of : List (List ℕ) → Kind → List ℕ → ℕ
pin_of names Word bytes = place_of names bytes
pin_of names _ bytes = 0

-- the pin of each token
abbrev pub pins_for : List (List ℕ) → List ℕ → List Token → List ℕ
pins_for names text tokens = map (λ t. pin_of names t.kind (bytes_of text t)) tokens
