-- Sets of names: what a look-up finds, what an insertion leaves, and which lists have the same names.
use Rattle.std.proofs.Common.{◌≡◌, ℕ, zero, suc, ◌-◌, ◌<◌, ◌≤◌, Bool, true, false, not, ◌&&◌, ◌||◌, List, [], ◌∷◌, map, drop, length, get_or, refl, sym, ap, ◌∙◌, Bor, arith, drop-cons}
use Rattle.std.specs.declared.cmp.Ordering.{Ordering}
use Rattle.std.specs.declared.cmp.Ordering.TheVariants.{Less, Equal, Greater}
use Rattle.std.specs.Ordering.{nat_cmp, match_ordering}
use Rattle.std.specs.Cmp.Lexicographic.{slice_cmp}
use Rattle.std.specs.List.{list_any}
use Rattle.std.specs.Str.{bytes_eq}
use Rattle.std.specs.BTreeMap.{is_at}
use Rattle.std.specs.BTreeSet.{insert_key}
use Rattle.std.proofs.lemmas.Map.Lookups.{exact_bytes}
use Rattle.std.proofs.lemmas.Map.Text.{is_eq-slice_cmp}
use Rattle.std.proofs.lemmas.Slice.Eq.{bytes_eq-Decides}
use Rattle.pe_base.specs.Names.{has_name, are_distinct, all_among, HasSameNames}

flipped : (a b : List ℕ) (p q : Bool) → bytes_eq a b ≡ p → bytes_eq b a ≡ q → p ≡ q
flipped a b true true e f = refl
flipped a b false false e f = refl
flipped a b true false e f = sym ((bytes_eq-Decides b a).1 (sym ((bytes_eq-Decides a b).0 e))) ∙ f
flipped a b false true e f = sym e ∙ (bytes_eq-Decides a b).1 (sym ((bytes_eq-Decides b a).0 f))

bytes_flip : (a b : List ℕ) → bytes_eq a b ≡ bytes_eq b a
bytes_flip a b = flipped a b (bytes_eq a b) (bytes_eq b a) refl refl

swapped : (a b c : Bool) → (a || (b || c)) ≡ (b || (a || c))
swapped true true c = refl
swapped true false c = refl
swapped false b c = refl

twice : (a c : Bool) → (a || c) ≡ (a || (a || c))
twice true c = refl
twice false c = refl

-- the names that a set's keys are
abbrev pub names_of : List (Bor (List ℕ)) → List (List ℕ)
names_of keys = map (λ k. k.now) keys

-- what a look-up finds
pub found : (keys : List (Bor (List ℕ))) (name : List ℕ) → list_any (is_at (λ (k : Bor (List ℕ)). slice_cmp nat_cmp name k.now)) keys ≡ has_name (names_of keys) name
found [] name = refl
found (k ∷ ks) name =
    ap (λ b. b || list_any (is_at (λ (k : Bor (List ℕ)). slice_cmp nat_cmp name k.now)) ks) (is_eq-slice_cmp name k.now ∙ bytes_flip name k.now)
    ∙ ap (λ b. bytes_eq k.now name || b) (found ks name)

abbrev by_bytes : Bor (List ℕ) → Bor (List ℕ) → Ordering
by_bytes x y = slice_cmp nat_cmp x.now y.now

-- what an insertion leaves
pub inserted : (keys : List (Bor (List ℕ))) (k : Bor (List ℕ)) → HasSameNames (names_of (insert_key by_bytes keys k)) (k.now ∷ names_of keys)
inserted [] k name = refl
inserted (x ∷ xs) k name = at_head (by_bytes k x) refl (inserted xs k name)
  where
    at_head : (o : Ordering) → by_bytes k x ≡ o → has_name (names_of (insert_key by_bytes xs k)) name ≡ (bytes_eq k.now name || has_name (names_of xs) name)
        → has_name (names_of (match_ordering o (k ∷ x ∷ xs) (x ∷ xs) (x ∷ insert_key by_bytes xs k))) name ≡ (bytes_eq k.now name || (bytes_eq x.now name || has_name (names_of xs) name))
    at_head Less e more = refl
    at_head Equal e more = let same : k.now ≡ x.now = exact_bytes k.now x.now e in rw same (twice (bytes_eq x.now name) (has_name (names_of xs) name))
    at_head Greater e more = ap (λ b. bytes_eq x.now name || b) more ∙ swapped (bytes_eq x.now name) (bytes_eq k.now name) (has_name (names_of xs) name)

-- lists with the same names
pub all_same : (names others : List (List ℕ)) → HasSameNames names others → (some : List (List ℕ)) → all_among names some ≡ all_among others some
all_same names others h [] = refl
all_same names others h (x ∷ xs) = ap (λ b. b && all_among names xs) (h x) ∙ ap (λ b. has_name others x && b) (all_same names others h xs)

-- one name more
pub same_more : (names others : List (List ℕ)) (name : List ℕ) → HasSameNames names others → HasSameNames (name ∷ names) (name ∷ others)
same_more names others name h q = ap (λ b. bytes_eq name q || b) (h q)

pub moved : (new old rest all : List (List ℕ)) (name : List ℕ) → HasSameNames new (name ∷ old) → ((q : List ℕ) → (has_name old q || has_name (name ∷ rest) q) ≡ has_name all q) → (q : List ℕ) → (has_name new q || has_name rest q) ≡ has_name all q
moved new old rest all name h k q = ap (λ b. b || has_name rest q) (h q) ∙ regroup (bytes_eq name q) (has_name old q) (has_name rest q) ∙ k q
  where
    regroup : (a b c : Bool) → ((a || b) || c) ≡ (b || (a || c))
    regroup true true c = refl
    regroup true false c = refl
    regroup false b c = refl

and_false : (a b : Bool) → b ≡ false → (a && b) ≡ false
and_false true b e = e
and_false false b e = refl

-- where two of the last names are the same, two names are
pub not_distinct : (i : ℕ) (names : List (List ℕ)) → are_distinct (drop i names) ≡ false → are_distinct names ≡ false
not_distinct zero names e = e
not_distinct (suc i) [] e = e
not_distinct (suc i) (name ∷ names) e = and_false (not (has_name names name)) (are_distinct names) (not_distinct i names e)

is_true : (a b : Bool) → a ≡ false → a ≡ not b → b ≡ true
is_true a true e f = refl
is_true a false e f = sym e ∙ f

-- where a name stands behind itself once more, two names are the same
pub repeated : (names behind : List (List ℕ)) (i : ℕ) (name : List ℕ) (new : Bool) → 0 < i → i ≤ length names → name ≡ get_or names (i - 1) name → HasSameNames behind (drop i names) → new ≡ false → new ≡ not (has_name behind name) → false ≡ are_distinct names
repeated names behind i name new more within is same old e =
    let below : i - 1 < length names = omega arith in
    let next : suc (i - 1) ≡ i = omega arith in
    let at : drop (i - 1) names ≡ name ∷ drop i names = rw (drop-cons names (i - 1) name below, ← is, next) refl in
    let has : has_name (drop i names) name ≡ true = sym (same name) ∙ is_true new (has_name behind name) old e in
    sym (not_distinct (i - 1) names (rw (at, has) refl))
