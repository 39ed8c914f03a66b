-- Going over tokens in order: where the next one stands, and that there are no more of them than bytes.
use Rattle.std.proofs.Common.{◌≡◌, ℕ, suc, ◌+◌, ◌<◌, ◌≤◌, List, [], ◌∷◌, ◌++◌, length, get_or, drop, drop-cons, add-one, append_assoc, arith, ap, refl, subst, sym, ◌∙◌}
use Rattle.pe_grammar.specs.declared.terminal.Token.{Token as Terminal}
use Rattle.pe_bool_expr.specs.declared.style.Style.{Style}
use Rattle.pe_bool_expr.specs.Terminals.{terminal_of, terminals_from, bytes_of}
use Rattle.pe_text.specs.declared.token.Kind.TheVariants.{Word}
use Rattle.pe_text.specs.declared.token.Token.{Token}
use Rattle.pe_text.specs.Cut.{AreInOrder}

-- from a place on, the tokens are in order, and the place has at least one byte for each token before
pub record Left (end done : ℕ) (ts : List Token) : Type 0 where
  pub from : ℕ
  pub enough : done ≤ from
  pub order : AreInOrder from end ts

pub order-within : (from end : ℕ) (ts : List Token) → AreInOrder from end ts → from ≤ end
order-within from end [] h = h
order-within from end (t ∷ ts) h = omega (arith, h.0, h.1, order-within t.span.to end ts h.2)

-- what is known of the next token
pub record Next (end done : ℕ) (t : Token) (ts : List Token) : Type 0 where
  pub order : t.span.from ≤ t.span.to
  pub within : t.span.to ≤ end
  pub short : done + 1 ≤ end
  pub left : Left end (done + 1) ts

pub next_piece : (end done : ℕ) (t : Token) (ts : List Token) → Left end done (t ∷ ts) → Next end done t ts
next_piece end done t ts h = record {
  order = omega (arith, h.order.1);
  within = order-within t.span.to end ts h.order.2;
  short = omega (arith, h.enough, h.order.0, h.order.1, order-within t.span.to end ts h.order.2);
  left = record { from = t.span.to; enough = omega (arith, h.enough, h.order.0, h.order.1); order = h.order.2 };
}

-- what is left from a place on
pub drop-next : {A : Type 0} (i : ℕ) (ts : List A) (d : A) → i < length ts → drop i ts ≡ get_or ts i d ∷ drop (i + 1) ts
drop-next i ts d h = rw (add-one, drop-cons ts i d) refl

-- what a token past the end is read as
abbrev pub no_piece : Token
no_piece = record { kind = Word; span = record { from = 0; to = 0 } }

pub next_at : (end i : ℕ) (ts : List Token) → i < length ts → Left end i (drop i ts) → Next end i (get_or ts i no_piece) (drop (i + 1) ts)
next_at end i ts h l =
    let P : List Token → Type 0 = λ us. Left end i us in
    next_piece end i (get_or ts i no_piece) (drop (i + 1) ts) (subst P (drop-next i ts no_piece h) l)

-- one step of a list made from what is left
pub terminals_step : (style : Style) (text : List ℕ) (i : ℕ) (ts : List Token) (all start after : List Terminal) (kind place : ℕ) → i < length ts →
    start ≡ all ++ terminals_from style text i (drop i ts) → kind ≡ terminal_of style (get_or ts i no_piece).kind (bytes_of text (get_or ts i no_piece)) → place ≡ i →
    after ≡ all ++ record { kind = kind; place = place } ∷ [] → start ≡ after ++ terminals_from style text (i + 1) (drop (i + 1) ts)
terminals_step style text i ts all start after kind place h p q r s =
    let next = drop-next i ts no_piece h in
    let t : Terminal = record { kind = kind; place = place } in
    let is : record { kind = terminal_of style (get_or ts i no_piece).kind (bytes_of text (get_or ts i no_piece)); place = i } ≡ t =
    ap (λ k. record { kind = k; place = i }) (sym q) ∙ ap (λ n. record { kind = kind; place = n }) (sym r) in
    p
    ∙ ap (λ us. all ++ terminals_from style text i us) next
    ∙ ap (λ x. all ++ x ∷ terminals_from style text (suc i) (drop (i + 1) ts)) is
    ∙ ap (λ n. all ++ t ∷ terminals_from style text n (drop (i + 1) ts)) (sym (add-one i))
    ∙ sym (append_assoc all (t ∷ []) (terminals_from style text (i + 1) (drop (i + 1) ts)))
    ∙ ap (λ us. us ++ terminals_from style text (i + 1) (drop (i + 1) ts)) (sym s)
