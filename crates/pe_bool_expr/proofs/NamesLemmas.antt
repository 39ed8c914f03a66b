-- Names among names, and the list of pins that is made token by token.
use Rattle.std.proofs.Common.{◌≡◌, ℕ, suc, ◌+◌, ◌<◌, ◌≤◌, Bool, true, false, cond, ◌||◌, ◌≢◌, ltb, List, [], ◌∷◌, ◌++◌, length, get_or, drop, append_assoc, Option, Some, arith, ap, refl, sym, ◌∙◌}
use Rattle.std.specs.Str.{bytes_eq}
use Rattle.std.proofs.lemmas.Bool.{lt-ltb}
use Rattle.pe_base.specs.Names.{has_name, place_of}
use Rattle.pe_text.specs.declared.token.Kind.{Kind}
use Rattle.pe_text.specs.declared.token.Kind.TheVariants.{Word}
use Rattle.pe_text.specs.declared.token.Token.{Token}
use Rattle.pe_bool_expr.specs.Names.{is_known, first_unknown, pin_of, pins_for}
use Rattle.pe_bool_expr.specs.Terminals.{bytes_of}
use Rattle.pe_bool_expr.proofs.Pieces.{drop-next, no_piece}

place_step : (b : Bool) (names : List (List ℕ)) (name : List ℕ) → has_name names name ≡ ltb (place_of names name) (length names) →
    (b || has_name names name) ≡ ltb (cond b 0 (1 + place_of names name)) (suc (length names))
place_step true names name h = sym (lt-ltb 0 (suc (length names)) (omega arith))
place_step false names name h = h ∙ grind arith

-- a name is among names where its place is before their end
pub known_place : (names : List (List ℕ)) (name : List ℕ) → has_name names name ≡ ltb (place_of names name) (length names)
known_place [] name = refl
known_place (other ∷ names) name = place_step (bytes_eq other name) names name (known_place names name)

place-le_step : (b : Bool) (n p : ℕ) → p ≤ n → cond b 0 (1 + p) ≤ suc n
place-le_step true n p h = omega arith
place-le_step false n p h = omega arith

place-le : (names : List (List ℕ)) (name : List ℕ) → place_of names name ≤ length names
place-le [] name = omega arith
place-le (other ∷ names) name = place-le_step (bytes_eq other name) (length names) (place_of names name) (place-le names name)

-- a name at the end is not known
pub unknown_at_end : (names : List (List ℕ)) (kind : Kind) (name : List ℕ) (place : ℕ) → kind ≡ Word → place ≡ place_of names name → place ≡ length names → is_known names kind name ≡ false
unknown_at_end names kind name place w p e =
    let low : place_of names name ≡ length names = sym p ∙ e in
    ap (λ k. is_known names k name) w ∙ known_place names name ∙ ap (λ n. ltb n (length names)) low ∙ grind arith

-- a name before the end is known
pub known_before : (names : List (List ℕ)) (kind : Kind) (name : List ℕ) (place : ℕ) → kind ≡ Word → place ≡ place_of names name → place ≢ length names →
    (is_known names kind name ≡ true) × (place ≡ pin_of names kind name)
known_before names kind name place w p e = (
  ap (λ k. is_known names k name) w ∙ known_place names name ∙ lt-ltb (place_of names name) (length names) (omega (arith, place-le names name, p, e)),
  p ∙ ap (λ k. pin_of names k name) (sym w),
)

-- one more pin
pub pins_step : (names : List (List ℕ)) (text : List ℕ) (i : ℕ) (ts : List Token) (all start after : List ℕ) (pin : ℕ) → i < length ts →
    start ≡ all ++ pins_for names text (drop i ts) → pin ≡ pin_of names (get_or ts i no_piece).kind (bytes_of text (get_or ts i no_piece)) →
    after ≡ all ++ pin ∷ [] → start ≡ after ++ pins_for names text (drop (i + 1) ts)
pins_step names text i ts all start after pin h p q r =
    p
    ∙ ap (λ us. all ++ pins_for names text us) (drop-next i ts no_piece h)
    ∙ ap (λ x. all ++ x ∷ pins_for names text (drop (i + 1) ts)) (sym q)
    ∙ sym (append_assoc all (pin ∷ []) (pins_for names text (drop (i + 1) ts)))
    ∙ ap (λ us. us ++ pins_for names text (drop (i + 1) ts)) (sym r)

-- the first unknown name from a token on: that of the rest, or the token
pub unknown_step : (names : List (List ℕ)) (text : List ℕ) (i : ℕ) (ts : List Token) (b : Bool) (start : Option ℕ) → i < length ts →
    start ≡ first_unknown names text (drop i ts) → is_known names (get_or ts i no_piece).kind (bytes_of text (get_or ts i no_piece)) ≡ b →
    start ≡ cond b (first_unknown names text (drop (i + 1) ts)) (Some (get_or ts i no_piece).span.from)
unknown_step names text i ts b start h p q =
    p
    ∙ ap (first_unknown names text) (drop-next i ts no_piece h)
    ∙ ap (λ x. cond x (first_unknown names text (drop (i + 1) ts)) (Some (get_or ts i no_piece).span.from)) q
