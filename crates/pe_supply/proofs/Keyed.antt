-- Keys of states, and what is found by them.
use Rattle.std.proofs.Common.{◌≡◌, ℕ, ◌<◌, ◌/◌, ◌%◌, Bool, true, false, cond, ◌&&◌, List, [], ◌∷◌, length, map, get_or, Some, refl, ap, sym, ◌∙◌, arith}
use Rattle.std.specs.Prelude.{◌==◌, find, slice_get}
use Rattle.std.specs.Str.{bytes_eq}
use Rattle.std.proofs.lemmas.Bool.{eqb-true, eq-eqb}
use Rattle.std.proofs.lemmas.List.{get_or-map, length-map}
use Rattle.std.proofs.lemmas.Slice.Eq.{bytes_eq-Decides}
use Rattle.pe_base.specs.Names.{place_of}
use Rattle.pe_supply.specs.declared.plan.PortState.{PortState}
use Rattle.pe_supply.specs.declared.supplies.Level.{Level}
use Rattle.pe_supply.specs.Keys.{key_of, said_by, state_key, keyed}
use Rattle.pe_supply.specs.Lookups.{value_of, AreFirsts}
use Rattle.pe_supply.specs.Numbers.{number_of}
use Rattle.pe_supply.specs.Tables.{is_state, level_in}
use Rattle.pe_supply.proofs.Finding.{first_at}

-- two keys are the same where the numbers and the names are
same_digits : (s t : ℕ) → s % 256 ≡ t % 256 → s / 256 % 256 ≡ t / 256 % 256 → s / 256 / 256 % 256 ≡ t / 256 / 256 % 256 → s / 256 / 256 / 256 ≡ t / 256 / 256 / 256 → s ≡ t
same_digits s t a b c d = omega arith

same_number : (s t : ℕ) (v w : List ℕ) → key_of s v ≡ key_of t w → s ≡ t
same_number s t v w e =
    same_digits s t (ap (λ xs. get_or xs 0 0) e) (ap (λ xs. get_or xs 1 0) e) (ap (λ xs. get_or xs 2 0) e) (ap (λ xs. get_or xs 3 0) e)

same_rest : (a b c d a' b' c' d' : ℕ) (v w : List ℕ) → ◌≡◌ {A = List ℕ} (a ∷ b ∷ c ∷ d ∷ v) (a' ∷ b' ∷ c' ∷ d' ∷ w) → v ≡ w
same_rest a b c d a' b' c' d' v w e = cc

same_keys : (s t : ℕ) (v w : List ℕ) → bytes_eq (key_of s v) (key_of t w) ≡ ((s == t) && bytes_eq v w)
same_keys s t v w = by (bytes_eq (key_of s v) (key_of t w)) (s == t) (bytes_eq v w) refl refl refl
  where
    by : (k n m : Bool) → bytes_eq (key_of s v) (key_of t w) ≡ k → (s == t) ≡ n → bytes_eq v w ≡ m → k ≡ (n && m)
    by true true true e f g = refl
    by true true false e f g =
        let same : v ≡ w = same_rest (s % 256) (s / 256 % 256) (s / 256 / 256 % 256) (s / 256 / 256 / 256) (t % 256) (t / 256 % 256) (t / 256 / 256 % 256) (t / 256 / 256 / 256) v w ((bytes_eq-Decides (key_of s v) (key_of t w)).0 e) in
        sym ((bytes_eq-Decides v w).1 same) ∙ g
    by true false m e f g = sym (eq-eqb s t (same_number s t v w ((bytes_eq-Decides (key_of s v) (key_of t w)).0 e))) ∙ f
    by false true true e f g =
        let number : s ≡ t = eqb-true s t f in
        let name : v ≡ w = (bytes_eq-Decides v w).0 g in
        sym e ∙ (bytes_eq-Decides (key_of s v) (key_of t w)).1 (ap (λ n. key_of n v) number ∙ ap (key_of t) name)
    by false true false e f g = refl
    by false false m e f g = refl

-- what is found by the key
level_by : (names : List (List ℕ × ℕ)) (states : List PortState) (supply : ℕ) (word : List ℕ) → value_of (map (keyed names) states) (key_of supply word) ≡ level_in (find (is_state names supply word) states)
level_by names [] supply word = refl
level_by names (s ∷ ss) supply word =
    ap (λ b. cond b (Some (said_by s)) (value_of (map (keyed names) ss) (key_of supply word))) (same_keys (number_of names s.port) supply s.name word)
    ∙ by (is_state names supply word s) (level_by names ss supply word)
  where
    by : (b : Bool) → value_of (map (keyed names) ss) (key_of supply word) ≡ level_in (find (is_state names supply word) ss)
        → cond b (Some (said_by s)) (value_of (map (keyed names) ss) (key_of supply word)) ≡ level_in (cond b (Some s) (find (is_state names supply word) ss))
    by true h = refl
    by false h = h

-- and at the key's place
pub found_by : (names : List (List ℕ × ℕ)) (states : List PortState) (index : List (List ℕ)) (levels : List Level) → AreFirsts (map (keyed names) states) index levels → (supply : ℕ) (word : List ℕ) (values : List Level) (place : ℕ) → values ≡ levels
    → place ≡ place_of index (key_of supply word) → slice_get values place ≡ level_in (find (is_state names supply word) states)
found_by names states index levels h supply word values place v p =
    ap (λ xs. slice_get xs place) v ∙ ap (slice_get levels) p ∙ first_at (map (keyed names) states) index levels h (key_of supply word) ∙ level_by names states supply word

-- a state's key at the state's place
module _ (names : List (List ℕ × ℕ)) (keys : List (List ℕ)) (states : List PortState) (e : keys ≡ map (state_key names) states) (i : ℕ) (l : i < length states) where
  pub key_within : i < length keys
  key_within = omega (arith, ap length e, length-map states (state_key names))

  pub keyed_within : i < length (map (keyed names) states)
  keyed_within = omega (arith, length-map states (keyed names))

  module _ (key : List ℕ) (state : PortState) (k : key ≡ get_or keys i key) (s : state ≡ get_or states i state) where
    pub key_beside : key ≡ state_key names state
    key_beside = k ∙ ap (λ ks. get_or ks i key) e ∙ get_or-map (state_key names) states i state key l ∙ ap (state_key names) (sym s)

    pub keyed_at : keyed names state ≡ get_or (map (keyed names) states) i (keyed names state)
    keyed_at = ap (keyed names) s ∙ sym (get_or-map (keyed names) states i state (keyed names state) l)
