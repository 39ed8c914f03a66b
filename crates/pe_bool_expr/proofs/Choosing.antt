-- Choices of bits for corrupt pins, and replacements of corrupt values: each gives what the other gives.
use Rattle.std.proofs.Common.{◌≡◌, ℕ, zero, suc, ◌+◌, ◌*◌, ◌/◌, ◌%◌, ◌^◌, ◌<◌, ◌≤◌, Bool, true, false, cond, not, ◌&&◌, ◌||◌, eqb, List, [], ◌∷◌, ◌++◌, length, append-nil, length-append, zero-add, sym, refl, ap, ◌∙◌, inl, inr, arith, Option, Some, None}
use Rattle.std.specs.Prelude.{slice_get, slice_index_or}
use Rattle.std.specs.List.{filter}
use Rattle.std.proofs.lemmas.Bool.{eqb-true, false≢true}
use Rattle.std.proofs.lemmas.List.Elements.{filter-append}
use Rattle.std.proofs.lemmas.List.Folds.{list_any-append}
use Rattle.std.proofs.lemmas.List.Sums.{length-filter, count_by-le-length}
use Rattle.std.proofs.Math.Nat.{two-pow-succ}
use Rattle.pe_bool_expr.specs.Functions.{Formula, constant, pin, complement, both, either, differ, value_by, pins, is_among, with_new, different}
use Rattle.pe_bool_expr.specs.Choices.{picked, bit_under, value_under, is_corrupt, corrupt_pins}
use Rattle.pe_base.specs.declared.value.Val.{Val}
use Rattle.pe_base.specs.declared.value.Val.TheVariants.{Zero, One, Corrupt}
use Rattle.pe_base.specs.Values.{known_of, IsReplacement, exact_extension, Refines}
use Rattle.pe_base.proofs.Exact.{exact_extension_law}

-- adding two lists one after the other
pub with_new-append : (ps xs ys : List ℕ) → with_new ps (xs ++ ys) ≡ with_new (with_new ps xs) ys
with_new-append ps [] ys = refl
with_new-append ps (x ∷ xs) ys = with_new-append (cond (is_among ps x) ps (ps ++ x ∷ [])) xs ys

longer_step : (b : Bool) (ps : List ℕ) (x : ℕ) → length ps ≤ length (cond b ps (ps ++ x ∷ []))
longer_step true ps x = omega arith
longer_step false ps x = omega (arith, length-append ps (x ∷ []))

-- the list only grows
pub with_new-longer : (ps xs : List ℕ) → length ps ≤ length (with_new ps xs)
with_new-longer ps [] = omega arith
with_new-longer ps (x ∷ xs) =
    omega (arith, longer_step (is_among ps x) ps x, with_new-longer (cond (is_among ps x) ps (ps ++ x ∷ [])) xs)

among_step : (c : ℕ → Bool) (xs : List ℕ) (x i : ℕ) (b d : Bool) → c i ≡ true → eqb x i ≡ b → c x ≡ d → is_among (filter c xs) i ≡ is_among xs i →
    is_among (cond d (x ∷ filter c xs) (filter c xs)) i ≡ is_among (x ∷ xs) i
among_step c xs x i true true h e f k = rw e refl
among_step c xs x i true false h e f k = let g : c i ≡ false = ap c (sym (eqb-true x i e)) ∙ f in absurd (false≢true (sym g ∙ h))
among_step c xs x i false true h e f k = rw e k
among_step c xs x i false false h e f k = rw e k

-- a number that passes the test is in a filtered list where it is in the list
pub among-filter : (c : ℕ → Bool) (xs : List ℕ) (i : ℕ) → c i ≡ true → is_among (filter c xs) i ≡ is_among xs i
among-filter c [] i h = refl
among-filter c (x ∷ xs) i h = among_step c xs x i (eqb x i) (c x) h refl refl (among-filter c xs i h)

filter-push : (c : ℕ → Bool) (xs : List ℕ) (x : ℕ) (d : Bool) → c x ≡ d → filter c (xs ++ x ∷ []) ≡ cond d (filter c xs ++ x ∷ []) (filter c xs)
filter-push c xs x true e = filter-append c xs (x ∷ []) ∙ rw e refl
filter-push c xs x false e = filter-append c xs (x ∷ []) ∙ rw e (append-nil (filter c xs))

filter_step : (c : ℕ → Bool) (ps xs : List ℕ) (x : ℕ) (d b : Bool) → c x ≡ d → is_among ps x ≡ b →
    ((qs : List ℕ) → with_new (filter c qs) (filter c xs) ≡ filter c (with_new qs xs)) →
    with_new (filter c ps) (cond d (x ∷ filter c xs) (filter c xs)) ≡ filter c (with_new (cond b ps (ps ++ x ∷ [])) xs)
filter_step c ps xs x true true e f k = ap (λ b. with_new (cond b (filter c ps) (filter c ps ++ x ∷ [])) (filter c xs)) (among-filter c ps x e ∙ f) ∙ k ps
filter_step c ps xs x true false e f k =
    ap (λ b. with_new (cond b (filter c ps) (filter c ps ++ x ∷ [])) (filter c xs)) (among-filter c ps x e ∙ f)
    ∙ (ap (λ v. with_new v (filter c xs)) (sym (filter-push c ps x true e)) ∙ k (ps ++ x ∷ []))
filter_step c ps xs x false true e f k = k ps
filter_step c ps xs x false false e f k = ap (λ v. with_new v (filter c xs)) (sym (filter-push c ps x false e)) ∙ k (ps ++ x ∷ [])

-- adding what passes to what passes
pub with_new-filter : (c : ℕ → Bool) (ps xs : List ℕ) → with_new (filter c ps) (filter c xs) ≡ filter c (with_new ps xs)
with_new-filter c ps [] = refl
with_new-filter c ps (x ∷ xs) = filter_step c ps xs x (c x) (is_among ps x) refl refl (λ qs. with_new-filter c qs xs)

-- the different corrupt pins are no more than the different pins
pub corrupt_few : (vs : List Val) (f : Formula) → length (with_new [] (corrupt_pins vs f)) ≤ length (different (pins f))
corrupt_few vs f =
    let c : ℕ → Bool = λ i. is_corrupt (slice_get vs i) in
    let e : length (with_new [] (corrupt_pins vs f)) ≡ length (filter c (different (pins f))) = ap length (with_new-filter c [] (pins f)) in
    omega (arith, e, length-filter c (different (pins f)), count_by-le-length c (different (pins f)))

kept_step : (b : Bool) (ps : List ℕ) (x i : ℕ) → is_among ps i ≡ true → is_among (cond b ps (ps ++ x ∷ [])) i ≡ true
kept_step true ps x i h = h
kept_step false ps x i h = list_any-append (λ y. eqb y i) ps (x ∷ []) ∙ rw h refl

-- what is in the list stays there, and what is added is there
kept : (ps xs : List ℕ) (i : ℕ) → is_among ps i ≡ true → is_among (with_new ps xs) i ≡ true
kept ps [] i h = h
kept ps (x ∷ xs) i h = kept (cond (is_among ps x) ps (ps ++ x ∷ [])) xs i (kept_step (is_among ps x) ps x i h)

pub eqb-same : (x : ℕ) → eqb x x ≡ true
eqb-same x = grind arith

or-true : (b : Bool) → (b || true) ≡ true
or-true true = refl
or-true false = refl

added : (b : Bool) (ps : List ℕ) (x : ℕ) → is_among ps x ≡ b → is_among (cond b ps (ps ++ x ∷ [])) x ≡ true
added true ps x e = e
added false ps x e = list_any-append (λ y. eqb y x) ps (x ∷ []) ∙ rw (eqb-same x) (or-true (is_among ps x))

newly_step : (ps xs : List ℕ) (x i : ℕ) (d : Bool) → eqb x i ≡ d → (d || is_among xs i) ≡ true →
    (is_among xs i ≡ true → is_among (with_new (cond (is_among ps x) ps (ps ++ x ∷ [])) xs) i ≡ true) →
    is_among (with_new ps (x ∷ xs)) i ≡ true
newly_step ps xs x i true e h k =
    kept (cond (is_among ps x) ps (ps ++ x ∷ [])) xs i (ap (is_among (cond (is_among ps x) ps (ps ++ x ∷ []))) (sym (eqb-true x i e)) ∙ added (is_among ps x) ps x refl)
newly_step ps xs x i false e h k = k h

newly : (ps xs : List ℕ) (i : ℕ) → is_among xs i ≡ true → is_among (with_new ps xs) i ≡ true
newly ps [] i h = absurd (false≢true h)
newly ps (x ∷ xs) i h = newly_step ps xs x i (eqb x i) refl h (λ k. newly (cond (is_among ps x) ps (ps ++ x ∷ [])) xs i k)

-- each corrupt pin of a function is in its list
pub all_there : (vs : List Val) (f : Formula) (i : ℕ) → is_among (pins f) i ≡ true → is_corrupt (slice_get vs i) ≡ true → is_among (with_new [] (corrupt_pins vs f)) i ≡ true
all_there vs f i h c = newly [] (corrupt_pins vs f) i (among-filter (λ k. is_corrupt (slice_get vs k)) (pins f) i c ∙ h)

among_left : (xs ys : List ℕ) (i : ℕ) → is_among xs i ≡ true → is_among (xs ++ ys) i ≡ true
among_left xs ys i h = list_any-append (λ y. eqb y i) xs ys ∙ rw h refl

among_right : (xs ys : List ℕ) (i : ℕ) → is_among ys i ≡ true → is_among (xs ++ ys) i ≡ true
among_right xs ys i h = list_any-append (λ y. eqb y i) xs ys ∙ rw h (or-true (is_among xs i))

-- two pairs of bits that are the same
same_two : (op : Bool → Bool → Bool) (a b c d : Bool) → a ≡ c → b ≡ d → op a b ≡ op c d
same_two op a b c d p q = ap (λ x. op x b) p ∙ ap (op c) q

-- a function's value hangs on the pins that it names
pub same_value : (f : Formula) (v w : ℕ → Bool) → ((i : ℕ) → is_among (pins f) i ≡ true → v i ≡ w i) → value_by v f ≡ value_by w f
same_value (constant b) v w h = refl
same_value (pin i) v w h = h i (rw (eqb-same i) refl)
same_value (complement f) v w h = ap not (same_value f v w h)
same_value (both f g) v w h = same_two (λ x y. x && y) _ _ _ _ (same_value f v w (λ i k. h i (among_left (pins f) (pins g) i k))) (same_value g v w (λ i k. h i (among_right (pins f) (pins g) i k)))
same_value (either f g) v w h = same_two (λ x y. x || y) _ _ _ _ (same_value f v w (λ i k. h i (among_left (pins f) (pins g) i k))) (same_value g v w (λ i k. h i (among_right (pins f) (pins g) i k)))
same_value (differ f g) v w h = same_two (λ x y. cond x (not y) y) _ _ _ _ (same_value f v w (λ i k. h i (among_left (pins f) (pins g) i k))) (same_value g v w (λ i k. h i (among_right (pins f) (pins g) i k)))

-- the number whose bits are those of the pins
number : List ℕ → List Bool → ℕ
number [] r = 0
number (p ∷ ps) r = cond (slice_index_or r p false) 1 0 + 2 * number ps r

bit-below : (b : Bool) → cond b 1 0 < 2
bit-below true = omega arith
bit-below false = omega arith

number-below : (ps : List ℕ) (r : List Bool) → number ps r < 2 ^ length ps
unfolding number
number-below [] r = omega arith
number-below (p ∷ ps) r = omega (arith, number-below ps r, bit-below (slice_index_or r p false), two-pow-succ (length ps))

odd-bit : (b : Bool) (m : ℕ) → eqb ((cond b 1 0 + 2 * m) % 2) 1 ≡ b
odd-bit true m = let e : (1 + 2 * m) % 2 ≡ 1 = omega arith in rw e refl
odd-bit false m = let e : (0 + 2 * m) % 2 ≡ 0 = omega arith in rw e refl

half-rest : (b : Bool) (m : ℕ) → (cond b 1 0 + 2 * m) / 2 ≡ m
half-rest true m = omega arith
half-rest false m = omega arith

picked_step : (ps : List ℕ) (r : List Bool) (p i : ℕ) (d : Bool) → eqb p i ≡ d → (d || is_among ps i) ≡ true →
    (is_among ps i ≡ true → picked ps (number ps r) i ≡ slice_index_or r i false) →
    cond d (eqb (number (p ∷ ps) r % 2) 1) (picked ps (number (p ∷ ps) r / 2) i) ≡ slice_index_or r i false
unfolding number
picked_step ps r p i true e h k = odd-bit (slice_index_or r p false) (number ps r) ∙ ap (λ v. slice_index_or r v false) (eqb-true p i e)
picked_step ps r p i false e h k = ap (λ m. picked ps m i) (half-rest (slice_index_or r p false) (number ps r)) ∙ k h

picked-number : (ps : List ℕ) (r : List Bool) (i : ℕ) → is_among ps i ≡ true → picked ps (number ps r) i ≡ slice_index_or r i false
picked-number [] r i h = absurd (false≢true h)
picked-number (p ∷ ps) r i h = picked_step ps r p i (eqb p i) refl h (λ k. picked-number ps r i k)

-- a known value's bit is not chosen
same_bit : (o : Option Val) (x y : Bool) → (is_corrupt o ≡ true → x ≡ y) → bit_under o x ≡ bit_under o y
same_bit None x y h = refl
same_bit (Some Zero) x y h = refl
same_bit (Some One) x y h = refl
same_bit (Some Corrupt) x y h = h refl

-- a replacement leaves known values as they are
replaced_bit : (vs : List Val) (r : List Bool) (i : ℕ) → IsReplacement vs r → bit_under (slice_get vs i) (slice_index_or r i false) ≡ slice_index_or r i false
replaced_bit [] [] i h = refl
replaced_bit [] (b ∷ r) i h = absurd h
replaced_bit (v ∷ vs) [] i h = absurd h
replaced_bit (Zero ∷ vs) (false ∷ r) zero h = refl
replaced_bit (Zero ∷ vs) (true ∷ r) zero h = absurd (elim h.0 [ inl p ↦ cc | inr p ↦ cc ])
replaced_bit (One ∷ vs) (true ∷ r) zero h = refl
replaced_bit (One ∷ vs) (false ∷ r) zero h = absurd (elim h.0 [ inl p ↦ cc | inr p ↦ cc ])
replaced_bit (Corrupt ∷ vs) (b ∷ r) zero h = refl
replaced_bit (v ∷ vs) (b ∷ r) (suc i) h = replaced_bit vs r i h.1

-- the bits of the values under a choice, from a place on
bits_from : List Val → ℕ → List ℕ → ℕ → List Bool
bits_from [] i ps n = []
bits_from (v ∷ vs) i ps n = bit_under (Some v) (picked ps n i) ∷ bits_from vs (suc i) ps n

is_refined : (v : Val) (b : Bool) → Refines (known_of (bit_under (Some v) b)) v
is_refined Zero b = inr refl
is_refined One b = inr refl
is_refined Corrupt b = inl refl

bits_replace : (vs : List Val) (i : ℕ) (ps : List ℕ) (n : ℕ) → IsReplacement vs (bits_from vs i ps n)
unfolding bits_from
bits_replace [] i ps n = tt
bits_replace (v ∷ vs) i ps n = (is_refined v (picked ps n i), bits_replace vs (suc i) ps n)

bits_at : (vs : List Val) (i : ℕ) (ps : List ℕ) (n k : ℕ) → slice_index_or (bits_from vs i ps n) k false ≡ bit_under (slice_get vs k) (picked ps n (i + k))
unfolding bits_from
bits_at [] i ps n k = refl
bits_at (v ∷ vs) i ps n zero = let e : i + 0 ≡ i = omega arith in rw e refl
bits_at (v ∷ vs) i ps n (suc k) = let e : suc i + k ≡ i + suc k = omega arith in bits_at vs (suc i) ps n k ∙ ap (λ j. bit_under (slice_get vs k) (picked ps n j)) e

-- the value that a function has by a replacement, as one by a choice
pub choice_of : (vs : List Val) (f : Formula) (ps : List ℕ) (r : List Bool) → ps ≡ with_new [] (corrupt_pins vs f) → IsReplacement vs r →
    (n : ℕ) × (n < 2 ^ length ps) × (value_by (value_under vs ps n) f ≡ value_by (λ i. slice_index_or r i false) f)
choice_of vs f ps r e h = (
  number ps r,
  number-below ps r,
  same_value f (value_under vs ps (number ps r)) (λ i. slice_index_or r i false) (λ i k.
      same_bit (slice_get vs i) _ _ (λ c. picked-number ps r i (ap (λ qs. is_among qs i) e ∙ all_there vs f i k c)) ∙ replaced_bit vs r i h),
)

-- the value that a function has by a choice, as one by a replacement
pub replacement_of : (vs : List Val) (f : Formula) (ps : List ℕ) (n : ℕ) →
    (r : List Bool) × IsReplacement vs r × (value_by (λ i. slice_index_or r i false) f ≡ value_by (value_under vs ps n) f)
replacement_of vs f ps n = (
  bits_from vs 0 ps n,
  bits_replace vs 0 ps n,
  same_value f (λ i. slice_index_or (bits_from vs 0 ps n) i false) (value_under vs ps n) (λ i k. bits_at vs 0 ps n i ∙ simp zero-add),
)

-- where every choice gives the bit, the exact extension is the bit
pub exact_known : (vs : List Val) (f : Formula) (ps : List ℕ) (b : Bool) → ps ≡ with_new [] (corrupt_pins vs f) →
    ((n : ℕ) → n < 2 ^ length ps → value_by (value_under vs ps n) f ≡ b) → exact_extension (λ r. value_by (λ i. slice_index_or r i false) f) vs ≡ known_of b
exact_known vs f ps b e h =
    (exact_extension_law (λ r. value_by (λ i. slice_index_or r i false) f) vs b).1 (λ r k. let x = choice_of vs f ps r e k in sym x.2 ∙ h x.0 x.1)

given_bit : (vs : List Val) (f : Formula) (ps : List ℕ) (n : ℕ) (b : Bool) → exact_extension (λ r. value_by (λ i. slice_index_or r i false) f) vs ≡ known_of b → value_by (value_under vs ps n) f ≡ b
given_bit vs f ps n b e = let x = replacement_of vs f ps n in sym x.2 ∙ (exact_extension_law (λ r. value_by (λ i. slice_index_or r i false) f) vs b).0 e x.0 x.1

corrupt_by : (x : Val) (a b : Bool) → (a ≡ b → ⊥) → ((c : Bool) → x ≡ known_of c → (a ≡ c) × (b ≡ c)) → x ≡ Corrupt
corrupt_by Corrupt a b ne h = refl
corrupt_by Zero a b ne h = let k = h false refl in absurd (ne (k.0 ∙ sym k.1))
corrupt_by One a b ne h = let k = h true refl in absurd (ne (k.0 ∙ sym k.1))

-- where two choices differ, it is corrupt
pub exact_corrupt : (vs : List Val) (f : Formula) (ps : List ℕ) (n m : ℕ) → (value_by (value_under vs ps n) f ≡ value_by (value_under vs ps m) f → ⊥) →
    exact_extension (λ r. value_by (λ i. slice_index_or r i false) f) vs ≡ Corrupt
exact_corrupt vs f ps n m ne = corrupt_by _ _ _ ne (λ c e. (given_bit vs f ps n c e, given_bit vs f ps m c e))

-- the corrupt pins of a function of two
pub corrupt_two : (ps : List ℕ) (vs : List Val) (h f g : Formula) → pins h ≡ pins f ++ pins g →
    with_new ps (corrupt_pins vs h) ≡ with_new (with_new ps (corrupt_pins vs f)) (corrupt_pins vs g)
corrupt_two ps vs h f g e =
    let c : ℕ → Bool = λ i. is_corrupt (slice_get vs i) in
    ap (λ xs. with_new ps (filter c xs)) e ∙ ap (with_new ps) (filter-append c (pins f) (pins g)) ∙ with_new-append ps (corrupt_pins vs f) (corrupt_pins vs g)

-- the two parts of a function of two, one after the other
pub collected_two : (vs : List Val) (h f g : Formula) (ps qs rs : List ℕ) → pins h ≡ pins f ++ pins g →
    (length (with_new ps (corrupt_pins vs f)) ≤ 10 → qs ≡ with_new ps (corrupt_pins vs f)) →
    (length (with_new qs (corrupt_pins vs g)) ≤ 10 → rs ≡ with_new qs (corrupt_pins vs g)) →
    length (with_new ps (corrupt_pins vs h)) ≤ 10 → rs ≡ with_new ps (corrupt_pins vs h)
collected_two vs h f g ps qs rs e p q few =
    let two = corrupt_two ps vs h f g e in
    let all : length (with_new (with_new ps (corrupt_pins vs f)) (corrupt_pins vs g)) ≤ 10 = omega (arith, ap length two) in
    let first : qs ≡ with_new ps (corrupt_pins vs f) = p (omega (arith, with_new-longer (with_new ps (corrupt_pins vs f)) (corrupt_pins vs g))) in
    let second : length (with_new qs (corrupt_pins vs g)) ≤ 10 = omega (arith, ap (λ xs. length (with_new xs (corrupt_pins vs g))) first) in
    q second ∙ ap (λ xs. with_new xs (corrupt_pins vs g)) first ∙ sym two
