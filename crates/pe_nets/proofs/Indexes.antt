-- Lists of names that are looked up by place, and how they grow.
use Rattle.std.proofs.Common.{◌≡◌, ℕ, ◌+◌, Bool, true, false, not, cond, ◌&&◌, ◌||◌, List, [], ◌∷◌, ◌++◌, map, length, refl, sym, ap, ◌∙◌, Bor, arith, Option, Some, None}
use Rattle.std.specs.Prelude.{position, nat_lt, suc}
use Rattle.std.proofs.lemmas.Bool.{lt-ltb, le-ltb, ltb-true, ltb-false}
use Rattle.std.specs.List.{position_or_len}
use Rattle.std.specs.List.{list_any, list_all}
use Rattle.std.specs.Str.{bytes_eq}
use Rattle.std.proofs.lemmas.Slice.Eq.{bytes_eq-Decides}
use Rattle.pe_base.specs.Names.{has_name, are_distinct, place_of}
use Rattle.pe_nets.proofs.Names.{place_past}

flipped : (a b : List ℕ) (p q : Bool) → bytes_eq a b ≡ p → bytes_eq b a ≡ q → p ≡ q
flipped a b true true e f = refl
flipped a b false false e f = refl
flipped a b true false e f = sym ((bytes_eq-Decides b a).1 (sym ((bytes_eq-Decides a b).0 e))) ∙ f
flipped a b false true e f = sym e ∙ (bytes_eq-Decides a b).1 (sym ((bytes_eq-Decides b a).0 f))

pub bytes_flip : (a b : List ℕ) → bytes_eq a b ≡ bytes_eq b a
bytes_flip a b = flipped a b (bytes_eq a b) (bytes_eq b a) refl refl

-- the names that keys are
abbrev pub names_of : List (Bor (List ℕ)) → List (List ℕ)
names_of keys = map (λ k. k.now) keys

pub found : (keys : List (Bor (List ℕ))) (name : List ℕ) → list_any (λ (k : Bor (List ℕ)). bytes_eq name k.now) keys ≡ has_name (names_of keys) name
found [] name = refl
found (k ∷ ks) name =
    ap (λ b. b || list_any (λ (k : Bor (List ℕ)). bytes_eq name k.now) ks) (bytes_flip name k.now) ∙ ap (λ b. bytes_eq k.now name || b) (found ks name)

pub names_of-append : (keys : List (Bor (List ℕ))) (k : Bor (List ℕ)) → names_of (keys ++ k ∷ []) ≡ names_of keys ++ k.now ∷ []
names_of-append [] k = refl
names_of-append (x ∷ xs) k = ap (λ ns. x.now ∷ ns) (names_of-append xs k)

-- the first key of the name has the name's place
abbrev test : List ℕ → Bor (List ℕ) → Bool
test name k = bytes_eq name k.now

at_place : (p : Bool) (a b : ℕ) → a ≡ b → cond (not p) (1 + a) 0 ≡ cond p 0 (1 + b)
at_place true a b e = refl
at_place false a b e = ap (λ n. 1 + n) e

pub placed_at : (keys : List (Bor (List ℕ))) (name : List ℕ) → position_or_len (test name) keys ≡ place_of (names_of keys) name
placed_at [] name = refl
placed_at (k ∷ ks) name =
    at_place (test name k) (position_or_len (test name) ks) (place_of (names_of ks) name) (placed_at ks name)
    ∙ ap (λ p. cond p 0 (1 + place_of (names_of ks) name)) (bytes_flip name k.now)

shifted : (p : Bool) (a n : ℕ) → nat_lt a n ≡ p → p ≡ nat_lt (1 + a) (suc n)
shifted true a n e = sym (lt-ltb (1 + a) (suc n) (omega (arith, ltb-true a n e)))
shifted false a n e = sym (le-ltb (1 + a) (suc n) (omega (arith, ltb-false a n e)))

-- a name is there where its place is below the length
within : (p q : Bool) (a n : ℕ) → q ≡ nat_lt a n → (p || q) ≡ nat_lt (cond p 0 (1 + a)) (suc n)
within true q a n e = sym (lt-ltb 0 (suc n) (omega arith))
within false q a n e = e ∙ shifted (nat_lt a n) a n refl

pub there : (names : List (List ℕ)) (name : List ℕ) → has_name names name ≡ nat_lt (place_of names name) (length names)
there [] name = refl
there (x ∷ xs) name = within (bytes_eq x name) (has_name xs name) (place_of xs name) (length xs) (there xs name)

names_length : (keys : List (Bor (List ℕ))) → length keys ≡ length (names_of keys)
names_length [] = refl
names_length (k ∷ ks) = ap suc (names_length ks)

abbrev no_place : Option ℕ
no_place = None

-- what a look-up finds
pub found_at : (keys : List (Bor (List ℕ))) (name : List ℕ) (p : ℕ) → position (λ (k : Bor (List ℕ)). bytes_eq name k.now) keys ≡ Some p → p ≡ place_of (names_of keys) name
found_at keys name p e = at_test (nat_lt (position_or_len (test name) keys) (length keys)) e ∙ placed_at keys name
  where
    at_test : (b : Bool) → cond b (Some (position_or_len (test name) keys)) None ≡ Some p → p ≡ position_or_len (test name) keys
    at_test true k = cc
    at_test false k = absurd (let z : no_place ≡ Some p = k in cc)

pub found_none : (keys : List (Bor (List ℕ))) (name : List ℕ) → position (λ (k : Bor (List ℕ)). bytes_eq name k.now) keys ≡ None → length keys ≡ place_of (names_of keys) name
found_none keys name e = names_length keys ∙ sym (place_past (names_of keys) name (at_test (nat_lt m (length keys)) refl e))
  where
    m : ℕ
    m = position_or_len (test name) keys

    h : has_name (names_of keys) name ≡ nat_lt m (length keys)
    h = there (names_of keys) name ∙ ap (λ n. nat_lt n (length (names_of keys))) (sym (placed_at keys name)) ∙ ap (nat_lt m) (sym (names_length keys))

    at_test : (b : Bool) → nat_lt m (length keys) ≡ b → cond b (Some m) None ≡ None → has_name (names_of keys) name ≡ false
    at_test true k z = absurd (let y : Some m ≡ None = z in cc)
    at_test false k z = h ∙ k

-- each of the names is new, one after another, behind those that are known
abbrev pub are_new : List (List ℕ) → List (List ℕ) → Bool
are_new known [] = true
are_new known (x ∷ xs) = not (has_name known x) && are_new (known ++ x ∷ []) xs

abbrev none_known : List (List ℕ) → List (List ℕ) → Bool
none_known known xs = list_all (λ x. not (has_name known x)) xs

or_assoc : (a b c : Bool) → (a || (b || c)) ≡ ((a || b) || c)
or_assoc true b c = refl
or_assoc false b c = refl

or_false : (a : Bool) → (a || false) ≡ a
or_false true = refl
or_false false = refl

has_last : (known : List (List ℕ)) (x y : List ℕ) → has_name (known ++ x ∷ []) y ≡ (has_name known y || bytes_eq x y)
has_last [] x y = or_false (bytes_eq x y)
has_last (k ∷ ks) x y = ap (λ b. bytes_eq k y || b) (has_last ks x y) ∙ or_assoc (bytes_eq k y) (has_name ks y) (bytes_eq x y)

regroup : (a b c d : Bool) → (not (a || b) && (c && not d)) ≡ ((not a && c) && not (b || d))
regroup true b c d = refl
regroup false true true d = refl
regroup false true false d = refl
regroup false false c d = refl

none_last : (known : List (List ℕ)) (x : List ℕ) (xs : List (List ℕ)) → none_known (known ++ x ∷ []) xs ≡ (none_known known xs && not (has_name xs x))
none_last known x [] = refl
none_last known x (y ∷ ys) =
    ap (λ b. not b && none_known (known ++ x ∷ []) ys) (has_last known x y ∙ ap (λ b. has_name known y || b) (bytes_flip x y))
    ∙ ap (λ b. not (has_name known y || bytes_eq y x) && b) (none_last known x ys)
    ∙ regroup (has_name known y) (bytes_eq y x) (none_known known ys) (has_name ys x)

and_assoc : (a b c d : Bool) → (a && ((b && c) && d)) ≡ ((a && b) && (c && d))
and_assoc true true c d = refl
and_assoc true false c d = refl
and_assoc false b c d = refl

new_is : (known xs : List (List ℕ)) → are_new known xs ≡ (none_known known xs && are_distinct xs)
new_is known [] = refl
new_is known (x ∷ xs) =
    ap (λ b. not (has_name known x) && b) (new_is (known ++ x ∷ []) xs ∙ ap (λ b. b && are_distinct xs) (none_last known x xs))
    ∙ and_assoc (not (has_name known x)) (none_known known xs) (not (has_name xs x)) (are_distinct xs)

none_at_all : (xs : List (List ℕ)) → none_known [] xs ≡ true
none_at_all [] = refl
none_at_all (x ∷ xs) = none_at_all xs

-- behind none, they are new where they are different
pub new_distinct : (xs : List (List ℕ)) → are_new [] xs ≡ are_distinct xs
new_distinct xs = new_is [] xs ∙ ap (λ b. b && are_distinct xs) (none_at_all xs)
