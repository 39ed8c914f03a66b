-- Names, each once, and their places.
use Rattle.std.proofs.Common.{◌≡◌, ℕ, zero, suc, ◌+◌, ◌<◌, Bool, true, false, cond, not, ◌||◌, List, [], ◌∷◌, ◌++◌, length, slice_index_or, get_or, drop, refl, ap, sym, ◌∙◌, ◌⊎◌, inl, inr, arith}
use Rattle.std.specs.Str.{bytes_eq}
use Rattle.std.proofs.lemmas.Bool.{false≢true, cases_lt, not-true, not-false}
use Rattle.std.proofs.lemmas.Slice.Eq.{bytes_eq-Decides}
use Rattle.std.proofs.lemmas.List.{length-append, at_drop_more}
use Rattle.pe_base.specs.Names.{has_name, place_of, HasSameNames}
use Rattle.pe_supply.specs.Labels.{AreApart}
use Rattle.pe_supply.specs.Numbers.{with_new, distinct}

-- equal bytes are one name
pub same_bytes : (a b : List ℕ) → bytes_eq a b ≡ true → a ≡ b
same_bytes a b e = (bytes_eq-Decides a b).0 e

pub bytes_same : (a b : List ℕ) → a ≡ b → bytes_eq a b ≡ true
bytes_same a b e = (bytes_eq-Decides a b).1 e

swapped : (a b c : Bool) → (a || (b || c)) ≡ (b || (a || c))
swapped true true c = refl
swapped true false c = refl
swapped false b c = refl

-- a name more at the end
pub has_push : (names : List (List ℕ)) (name q : List ℕ) → has_name (names ++ name ∷ []) q ≡ (bytes_eq name q || has_name names q)
has_push [] name q = refl
has_push (x ∷ xs) name q = ap (λ b. bytes_eq x q || b) (has_push xs name q) ∙ swapped (bytes_eq x q) (bytes_eq name q) (has_name xs q)

-- a name that is there, once more
absorbed : (a b : Bool) → (a ≡ true → b ≡ true) → (a || b) ≡ b
absorbed true b h = sym (h refl)
absorbed false b h = refl

pub had : (names : List (List ℕ)) (name q : List ℕ) → has_name names name ≡ true → (bytes_eq name q || has_name names q) ≡ has_name names q
had names name q h = absorbed (bytes_eq name q) (has_name names q) (λ e. sym (ap (has_name names) (same_bytes name q e)) ∙ h)

regroup : (a b c : Bool) → ((a || b) || c) ≡ (b || (a || c))
regroup true true c = refl
regroup true false c = refl
regroup false b c = refl

with_new_has_by : (b : Bool) (names more : List (List ℕ)) (name q : List ℕ) → has_name names name ≡ b
    → ((ns : List (List ℕ)) → has_name (with_new ns more) q ≡ (has_name ns q || has_name more q))
    → has_name (with_new (cond b names (names ++ name ∷ [])) more) q ≡ (has_name names q || (bytes_eq name q || has_name more q))
with_new_has_by true names more name q e go =
    go names ∙ ap (λ b. b || has_name more q) (sym (had names name q e)) ∙ regroup (bytes_eq name q) (has_name names q) (has_name more q)
with_new_has_by false names more name q e go =
    go (names ++ name ∷ []) ∙ ap (λ b. b || has_name more q) (has_push names name q) ∙ regroup (bytes_eq name q) (has_name names q) (has_name more q)

or_none : (b : Bool) → (b || false) ≡ b
or_none true = refl
or_none false = refl

-- each name once are the same names
pub with_new_has : (more names : List (List ℕ)) (q : List ℕ) → has_name (with_new names more) q ≡ (has_name names q || has_name more q)
with_new_has [] names q = sym (or_none (has_name names q))
with_new_has (name ∷ more) names q = with_new_has_by (has_name names name) names more name q refl (λ ns. with_new_has more ns q)

pub distinct_has : (names : List (List ℕ)) (q : List ℕ) → has_name (distinct names) q ≡ has_name names q
distinct_has names q = with_new_has names [] q

-- the place of a name that is there
place_in_by : (b h : Bool) (p n : ℕ) → (b || h) ≡ true → (h ≡ true → p < n) → cond b 0 (1 + p) < suc n
place_in_by true h p n e more = omega arith
place_in_by false h p n e more = let l : p < n = more e in omega arith

pub place_in : (names : List (List ℕ)) (name : List ℕ) → has_name names name ≡ true → place_of names name < length names
place_in [] name h = absurd (false≢true h)
place_in (x ∷ xs) name h = place_in_by (bytes_eq x name) (has_name xs name) (place_of xs name) (length xs) h (place_in xs name)

place_at_by : (b : Bool) (x : List ℕ) (xs : List (List ℕ)) (name : List ℕ) (p : ℕ) → bytes_eq x name ≡ b → (p < length xs → slice_index_or xs p [] ≡ name) → cond b 0 (1 + p) < suc (length xs) → slice_index_or (x ∷ xs) (cond b 0 (1 + p)) [] ≡ name
place_at_by true x xs name p e more l = same_bytes x name e
place_at_by false x xs name p e more l = let inside : p < length xs = omega arith in let next : 1 + p ≡ suc p = omega arith in rw next (more inside)

-- what stands at the place of a name
pub place_at : (names : List (List ℕ)) (name : List ℕ) → place_of names name < length names → slice_index_or names (place_of names name) [] ≡ name
place_at [] name l = absurd (omega arith)
place_at (x ∷ xs) name l = place_at_by (bytes_eq x name) x xs name (place_of xs name) refl (place_at xs name) l

place_push_by : (b : Bool) (p q n : ℕ) → (p < n → q ≡ p) → cond b 0 (1 + p) < suc n → cond b 0 (1 + q) ≡ cond b 0 (1 + p)
place_push_by true p q n more l = refl
place_push_by false p q n more l = let inside : p < n = omega arith in ap (λ m. 1 + m) (more inside)

-- a name at the end changes no place
pub place_push : (names : List (List ℕ)) (last name : List ℕ) → place_of names name < length names → place_of (names ++ last ∷ []) name ≡ place_of names name
place_push [] last name l = absurd (omega arith)
place_push (x ∷ xs) last name l = place_push_by (bytes_eq x name) (place_of xs name) (place_of (xs ++ last ∷ []) name) (length xs) (place_push xs last name) l

place_last_by : (b h : Bool) (p n : ℕ) → (b || h) ≡ false → (h ≡ false → p ≡ n) → cond b 0 (1 + p) ≡ suc n
place_last_by true h p n e more = absurd (false≢true (sym e))
place_last_by false h p n e more = let is : p ≡ n = more e in omega arith

-- and a new one has the last
pub place_last : (names : List (List ℕ)) (name : List ℕ) → has_name names name ≡ false → place_of (names ++ name ∷ []) name ≡ length names
place_last [] name e = let same : bytes_eq name name ≡ true = bytes_same name name refl in rw same refl
place_last (x ∷ xs) name e = place_last_by (bytes_eq x name) (has_name xs name) (place_of (xs ++ name ∷ []) name) (length xs) e (place_last xs name)

at_front : (names : List (List ℕ)) (last : List ℕ) (k : ℕ) → k < length names → slice_index_or (names ++ last ∷ []) k [] ≡ slice_index_or names k []
at_front [] last k l = absurd (omega arith)
at_front (x ∷ xs) last zero l = refl
at_front (x ∷ xs) last (suc k) l = let inside : k < length xs = omega arith in at_front xs last k inside

at_end : (names : List (List ℕ)) (last : List ℕ) → slice_index_or (names ++ last ∷ []) (length names) [] ≡ last
at_end [] last = refl
at_end (x ∷ xs) last = at_end xs last

apart_push_by : (names : List (List ℕ)) (name : List ℕ) (k : ℕ) → AreApart names → has_name names name ≡ false → (k < length names) ⊎ (k ≡ length names)
    → place_of (names ++ name ∷ []) (slice_index_or (names ++ name ∷ []) k []) ≡ k
apart_push_by names name k h e which = elim which [
  | inl l ↦
      let at = at_front names name k l in
      let own : place_of names (slice_index_or names k []) < length names = rw (h k l) l in
      ap (place_of (names ++ name ∷ [])) at ∙ place_push names name (slice_index_or names k []) own ∙ h k l
  | inr s ↦ rw s (ap (place_of (names ++ name ∷ [])) (at_end names name) ∙ place_last names name e)
]

front_or_end : (k n : ℕ) → k < n + 1 → (k < n) ⊎ (k ≡ n)
front_or_end k n l = elim (cases_lt k n) [ inl a ↦ inl a | inr b ↦ inr (omega arith) ]

-- names that are apart, and a new one
pub apart_push : (names : List (List ℕ)) (name : List ℕ) → AreApart names → has_name names name ≡ false → AreApart (names ++ name ∷ [])
apart_push names name h e k l =
    let inside : k < length names + 1 = omega (arith, length-append names (name ∷ [])) in
    apart_push_by names name k h e (front_or_end k (length names) inside)

with_new_apart_by : (b : Bool) (names : List (List ℕ)) (name : List ℕ) → has_name names name ≡ b → AreApart names → AreApart (cond b names (names ++ name ∷ []))
with_new_apart_by true names name e h = h
with_new_apart_by false names name e h = apart_push names name h e

pub with_new_apart : (more names : List (List ℕ)) → AreApart names → AreApart (with_new names more)
with_new_apart [] names h = h
with_new_apart (name ∷ more) names h = with_new_apart more (cond (has_name names name) names (names ++ name ∷ [])) (with_new_apart_by (has_name names name) names name refl h)

pub distinct_apart : (names : List (List ℕ)) → AreApart (distinct names)
distinct_apart names = with_new_apart names [] (λ k l. absurd (omega arith))

-- a set that has the same names as a list, with a new name and with one that it had
pub same_push : (set new names : List (List ℕ)) (name : List ℕ) → HasSameNames set names → HasSameNames new (name ∷ set) → HasSameNames new (names ++ name ∷ [])
same_push set new names name h k q = k q ∙ ap (λ b. bytes_eq name q || b) (h q) ∙ sym (has_push names name q)

pub same_had : (set new names : List (List ℕ)) (name : List ℕ) → HasSameNames set names → HasSameNames new (name ∷ set) → has_name set name ≡ true → HasSameNames new names
same_had set new names name h k e q = k q ∙ had set name q e ∙ h q

-- a name that is new, and one that is not
pub distinct_new : (set new once names : List (List ℕ)) (i : ℕ) (name : List ℕ) (all : List (List ℕ)) → i < length names → name ≡ get_or names i name → HasSameNames set once → HasSameNames new (name ∷ set) → not (has_name set name) ≡ true
    → with_new once (drop i names) ≡ all → HasSameNames new (once ++ name ∷ []) × (with_new (once ++ name ∷ []) (drop (i + 1) names) ≡ all)
distinct_new set new once names i name all l is same added fresh so_far =
    let absent : has_name once name ≡ false = sym (same name) ∙ not-true (has_name set name) fresh in
    let step : with_new once (name ∷ drop (i + 1) names) ≡ with_new (once ++ name ∷ []) (drop (i + 1) names) = ap (λ b. with_new (cond b once (once ++ name ∷ [])) (drop (i + 1) names)) absent in
    (same_push set new once name same added, sym step ∙ ap (λ x. with_new once (x ∷ drop (i + 1) names)) is ∙ sym (at_drop_more (with_new once) names i name l) ∙ so_far)

pub distinct_old : (set new once names : List (List ℕ)) (i : ℕ) (name : List ℕ) (all : List (List ℕ)) → i < length names → name ≡ get_or names i name → HasSameNames set once → HasSameNames new (name ∷ set) → not (has_name set name) ≡ false
    → with_new once (drop i names) ≡ all → HasSameNames new once × (with_new once (drop (i + 1) names) ≡ all)
distinct_old set new once names i name all l is same added known so_far =
    let there : has_name set name ≡ true = not-false (has_name set name) known in
    let step : with_new once (name ∷ drop (i + 1) names) ≡ with_new once (drop (i + 1) names) = ap (λ b. with_new (cond b once (once ++ name ∷ [])) (drop (i + 1) names)) (sym (same name) ∙ there) in
    (same_had set new once name same added there, sym step ∙ ap (λ x. with_new once (x ∷ drop (i + 1) names)) is ∙ sym (at_drop_more (with_new once) names i name l) ∙ so_far)
