-- Each pin of a function that is read is the place of a name that is not empty.
use Rattle.std.proofs.Common.{◌≡◌, ℕ, suc, ◌+◌, ◌-◌, ◌<◌, ◌≤◌, Bool, true, false, cond, ◌||◌, List, [], ◌∷◌, ◌++◌, length, get_or, Option, Some, None, refl, sym, ap, ◌∙◌, subst, append_assoc, length-append, length-drop, take, drop, arith}
use Rattle.std.specs.Prelude.{slice_index, slice_range, if◌then◌else◌, eqb}
use Rattle.std.specs.Str.{bytes_eq}
use Rattle.std.proofs.lemmas.List.{length-take-le}
use Rattle.std.proofs.lemmas.Slice.Eq.{bytes_eq-Decides}
use Rattle.pe_base.specs.Names.{has_name, place_of}
use Rattle.pe_text.specs.declared.token.Kind.{Kind}
use Rattle.pe_text.specs.declared.token.Kind.TheVariants.{Word, Escaped, Number, Text, Mark, End}
use Rattle.pe_text.specs.declared.token.Token.{Token}
use Rattle.pe_text.specs.Cut.{AreInOrder}
use Rattle.pe_text.proofs.Order.{in_order}
use Rattle.pe_bool_expr.specs.declared.expr.Expr.{Expr}
use Rattle.pe_bool_expr.specs.declared.style.Style.TheVariants.{Liberty}
use Rattle.pe_bool_expr.specs.Functions.{pins_of}
use Rattle.pe_bool_expr.specs.Names.{is_known, first_unknown, pin_of, pins_for}
use Rattle.pe_bool_expr.specs.Reading.{IsFunction}
use Rattle.pe_bool_expr.specs.Terminals.{bytes_of, terminals_from, liberty_mark, liberty_terminal, is_zero}
use Rattle.pe_bool_expr.specs.Styles.{class_of}
use Rattle.pe_bool_expr.proofs.Pieces.{order-within}
use Rattle.pe_cells.proofs.Pins.{Each, Told, good_function}

-- the place is that of a name that is not empty
abbrev pub IsNamed : List (List ℕ) → ℕ → Type 0
IsNamed names p = (p < length names) × (get_or names p [] ≡ [] → ⊥)

found_step : (b : Bool) (other : List ℕ) (names : List (List ℕ)) (name : List ℕ) → (b ≡ true → other ≡ name) → (b || has_name names name) ≡ true →
    (has_name names name ≡ true → (place_of names name < length names) × (get_or names (place_of names name) [] ≡ name)) →
    (cond b 0 (1 + place_of names name) < suc (length names)) × (get_or (other ∷ names) (cond b 0 (1 + place_of names name)) [] ≡ name)
found_step true other names name same h later = (omega arith, same refl)
found_step false other names name same h later = let x = later h in (omega (arith, x.0), rw (one_more (place_of names name)) x.1)
  where
    one_more : (n : ℕ) → 1 + n ≡ suc n
    one_more n = omega arith

-- a name among names is at its place
found_at : (names : List (List ℕ)) (name : List ℕ) → has_name names name ≡ true → (place_of names name < length names) × (get_or names (place_of names name) [] ≡ name)
found_at [] name h = cc
found_at (other ∷ names) name h = found_step (bytes_eq other name) other names name (λ e. (bytes_eq-Decides other name).0 e) h (found_at names name)

-- only a word is the terminal of a name
not_7 : (b : Bool) (x y : ℕ) → (x ≡ 7 → ⊥) → (y ≡ 7 → ⊥) → (if b then x else y) ≡ 7 → ⊥
not_7 true x y p q h = p h
not_7 false x y p q h = q h

mark_not_7 : (b : ℕ) → liberty_mark b ≡ 7 → ⊥
mark_not_7 b =
    not_7 (eqb b 43) _ _ (λ h. omega arith)
    (not_7 (eqb b 124) _ _ (λ h. omega arith)
    (not_7 (eqb b 42) _ _ (λ h. omega arith)
    (not_7 (eqb b 38) _ _ (λ h. omega arith)
    (not_7 (eqb b 94) _ _ (λ h. omega arith)
    (not_7 (eqb b 33) _ _ (λ h. omega arith)
    (not_7 (eqb b 39) _ _ (λ h. omega arith)
    (not_7 (eqb b 40) _ _ (λ h. omega arith) (λ h. omega arith))))))))

named_kind : (names : List (List ℕ)) (kind : Kind) (bytes : List ℕ) → (bytes ≡ [] → ⊥) → is_known names kind bytes ≡ true → liberty_terminal kind bytes ≡ 7 → IsNamed names (pin_of names kind bytes)
named_kind names Word bytes full known h = let x = found_at names bytes known in (x.0, λ e. full (sym x.1 ∙ e))
named_kind names Number bytes full known h = absurd (not_7 (is_zero bytes) 8 9 (λ e. omega arith) (λ e. omega arith) h)
named_kind names Escaped bytes full known h = absurd (mark_not_7 (slice_index bytes 0) h)
named_kind names Text bytes full known h = absurd (mark_not_7 (slice_index bytes 0) h)
named_kind names Mark bytes full known h = absurd (mark_not_7 (slice_index bytes 0) h)
named_kind names End bytes full known h = absurd (mark_not_7 (slice_index bytes 0) h)

-- the first name that is not known, where there is none
known_first : (b : Bool) (at : ℕ) (more : Option ℕ) → cond b more (Some at) ≡ None → (b ≡ true) × (more ≡ None)
known_first true at more h = (refl, h)
known_first false at more h = cc

not_empty : (text : List ℕ) (from to : ℕ) → from < to → to ≤ length text → slice_range text from to ≡ [] → ⊥
not_empty text from to lt le e =
    let rest = drop from text in
    let within : to - from ≤ length rest = omega (arith, length-drop from text) in
    let whole : length (take (to - from) rest) ≡ to - from = length-take-le (to - from) rest within in
    let size : length (take (to - from) rest) ≡ 0 = ap length e in
    omega arith

pin_at : (names : List (List ℕ)) (text : List ℕ) (front rest : List Token) (t : Token) → slice_index (pins_for names text (front ++ t ∷ rest)) (length front) ≡ pin_of names t.kind (bytes_of text t)
pin_at names text [] rest t = refl
pin_at names text (f ∷ front) rest t = pin_at names text front rest t

-- each token that is a name tells such a place
told : (names : List (List ℕ)) (text : List ℕ) (front rest : List Token) (from : ℕ) → AreInOrder from (length text) rest → first_unknown names text rest ≡ None →
    Told (IsNamed names) (pins_for names text (front ++ rest)) (terminals_from Liberty text (length front) rest)
told names text front [] from order known = tt
told names text front (t ∷ rest) from order known =
    let k = known_first (is_known names t.kind (bytes_of text t)) t.span.from (first_unknown names text rest) known in
    let full = not_empty text t.span.from t.span.to order.1 (order-within t.span.to (length text) rest order.2) in
    let here = λ (e : liberty_terminal t.kind (bytes_of text t) ≡ 7). subst (IsNamed names) (sym (pin_at names text front rest t)) (named_kind names t.kind (bytes_of text t) full k.0 e) in
    let later = told names text (front ++ t ∷ []) rest t.span.to order.2 k.1 in
    let joined : (front ++ t ∷ []) ++ rest ≡ front ++ t ∷ rest = append_assoc front (t ∷ []) rest in
    let count : length (front ++ t ∷ []) ≡ suc (length front) = simp length-append (omega arith) in (
      here,
      subst (λ n. Told (IsNamed names) (pins_for names text (front ++ t ∷ rest)) (terminals_from Liberty text n rest)) count
          (subst (λ us. Told (IsNamed names) (pins_for names text us) (terminals_from Liberty text (length (front ++ t ∷ [])) rest)) joined later),
    )

-- so of a function
pub named_pins : (names : List (List ℕ)) (text : List ℕ) (e : Expr) → IsFunction Liberty names text e → Each (IsNamed names) (pins_of e)
named_pins names text e (tokens, cut, h) =
    let from_tokens = told names text [] tokens 0 (in_order (class_of Liberty) text tokens cut) h.known in
    let from_text = subst (Told (IsNamed names) (pins_for names text tokens)) (sym h.parsed.spelled) from_tokens in
    let good = good_function (IsNamed names) (pins_for names text tokens) h.derivation h.parsed.derives from_text in
    subst (λ x. Each (IsNamed names) (pins_of x)) (sym h.is) good
