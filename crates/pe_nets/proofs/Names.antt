-- Facts of names in lists.
use Rattle.std.proofs.Common.{◌≡◌, ℕ, zero, suc, ◌+◌, ◌<◌, Bool, true, false, not, cond, ◌&&◌, ◌||◌, List, [], ◌∷◌, length, refl, sym, ap, ◌∙◌, arith, get_or}
use Rattle.std.specs.Str.{bytes_eq}
use Rattle.std.proofs.lemmas.Slice.Eq.{bytes_eq-Decides}
use Rattle.pe_base.specs.Names.{has_name, are_distinct, all_among, place_of}
use Rattle.pe_nets.specs.Nets.{name_at}

pub and_left : (a b : Bool) → (a && b) ≡ true → a ≡ true
and_left true b e = refl
and_left false b e = e

pub and_right : (a b : Bool) → (a && b) ≡ true → b ≡ true
and_right true b e = e
and_right false b e = absurd (let x : false ≡ true = e in cc)

pub or_right : (a c : Bool) → c ≡ true → (a || c) ≡ true
or_right true c k = refl
or_right false c k = k

pub or_left_false : (a b : Bool) → (a || b) ≡ false → a ≡ false
or_left_false true b e = absurd (let x : true ≡ false = e in cc)
or_left_false false b e = refl

pub or_right_false : (a b : Bool) → (a || b) ≡ false → b ≡ false
or_right_false true b e = absurd (let x : true ≡ false = e in cc)
or_right_false false b e = e

pub not_true : (a : Bool) → not a ≡ true → a ≡ false
not_true true e = absurd (let x : false ≡ true = e in cc)
not_true false e = refl

pub same_name : (a b : List ℕ) → bytes_eq a b ≡ true → a ≡ b
same_name a b e = (bytes_eq-Decides a b).0 e

pub name_same : (a b : List ℕ) → a ≡ b → bytes_eq a b ≡ true
name_same a b e = (bytes_eq-Decides a b).1 e

-- each of some names, where all are among some
pub among_at : (names some : List (List ℕ)) (name : List ℕ) → all_among names some ≡ true → has_name some name ≡ true → has_name names name ≡ true
among_at names [] name a h = absurd (let x : false ≡ true = h in cc)
among_at names (x ∷ xs) name a h = at_head (bytes_eq x name) refl (among_at names xs name (and_right (has_name names x) (all_among names xs) a))
  where
    at_head : (b : Bool) → bytes_eq x name ≡ b → (has_name xs name ≡ true → has_name names name ≡ true) → has_name names name ≡ true
    at_head true k more = ap (has_name names) (sym (same_name x name k)) ∙ and_left (has_name names x) (all_among names xs) a
    at_head false k more = more (let z : (bytes_eq x name || has_name xs name) ≡ true = h in rw k at z)

pub place_below : (names : List (List ℕ)) (name : List ℕ) → has_name names name ≡ true → place_of names name < length names
place_below [] name e = absurd (let x : false ≡ true = e in cc)
place_below (other ∷ names) name e = at_head (bytes_eq other name) refl (place_below names name)
  where
    at_head : (b : Bool) → bytes_eq other name ≡ b → (has_name names name ≡ true → place_of names name < length names) → cond (bytes_eq other name) 0 (1 + place_of names name) < suc (length names)
    at_head true k more = rw k (omega arith)
    at_head false k more =
        let e' : (bytes_eq other name || has_name names name) ≡ true = e in
        let less : place_of names name < length names = more (rw k at e') in
        rw k (omega arith)

pub place_past : (names : List (List ℕ)) (name : List ℕ) → has_name names name ≡ false → place_of names name ≡ length names
place_past [] name e = refl
place_past (other ∷ names) name e =
    let k = or_left_false (bytes_eq other name) (has_name names name) e in
    let m = place_past names name (or_right_false (bytes_eq other name) (has_name names name) e) in
    ap (λ b. cond b 0 (1 + place_of names name)) k ∙ ap (λ n. 1 + n) m ∙ one_more (length names)
  where
    one_more : (n : ℕ) → 1 + n ≡ suc n
    one_more n = omega arith

pub name_at_place : (names : List (List ℕ)) (name : List ℕ) → has_name names name ≡ true → name_at names (place_of names name) ≡ name
name_at_place [] name e = absurd (let x : false ≡ true = e in cc)
name_at_place (other ∷ names) name e = at_head (bytes_eq other name) refl (name_at_place names name)
  where
    at_head : (b : Bool) → bytes_eq other name ≡ b → (has_name names name ≡ true → name_at names (place_of names name) ≡ name) → get_or (other ∷ names) (cond (bytes_eq other name) 0 (1 + place_of names name)) [] ≡ name
    at_head true k more = rw k (same_name other name k)
    at_head false k more =
        let e' : (bytes_eq other name || has_name names name) ≡ true = e in
        let next : 1 + place_of names name ≡ suc (place_of names name) = omega arith in
        rw (k, next) (more (rw k at e'))

-- a name at a place is among the names
pub has_at : (names : List (List ℕ)) (k : ℕ) → k < length names → has_name names (name_at names k) ≡ true
has_at [] k h = absurd (omega arith)
has_at (x ∷ xs) zero h = ap (λ b. b || has_name xs x) (name_same x x refl)
has_at (x ∷ xs) (suc k) h = or_right (bytes_eq x (name_at xs k)) (has_name xs (name_at xs k)) (has_at xs k (omega arith))

-- among different names each stands at its place
pub place_at_name : (names : List (List ℕ)) (k : ℕ) → are_distinct names ≡ true → k < length names → place_of names (name_at names k) ≡ k
place_at_name [] k d h = absurd (omega arith)
place_at_name (x ∷ xs) zero d h = ap (λ b. cond b 0 (1 + place_of xs x)) (name_same x x refl)
place_at_name (x ∷ xs) (suc k) d h = at_tail (bytes_eq x (name_at xs k)) refl (place_at_name xs k (and_right (not (has_name xs x)) (are_distinct xs) d) (omega arith))
  where
    rest : has_name xs x ≡ false
    rest = not_true (has_name xs x) (and_left (not (has_name xs x)) (are_distinct xs) d)

    less : k < length xs
    less = omega arith

    at_tail : (b : Bool) → bytes_eq x (name_at xs k) ≡ b → place_of xs (name_at xs k) ≡ k → cond (bytes_eq x (name_at xs k)) 0 (1 + place_of xs (name_at xs k)) ≡ suc k
    at_tail true e p = absurd (let z : has_name xs x ≡ true = ap (has_name xs) (same_name x (name_at xs k) e) ∙ has_at xs k less in let y : true ≡ false = sym z ∙ rest in cc)
    at_tail false e p =
        let q : 1 + k ≡ suc k = omega arith in
        ap (λ b. cond b 0 (1 + place_of xs (name_at xs k))) e ∙ ap (λ n. 1 + n) p ∙ q
