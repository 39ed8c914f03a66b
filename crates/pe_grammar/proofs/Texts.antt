-- Lists of tokens, sets of terminals, and the parts of derivations.
use Rattle.std.proofs.Common.{◌≡◌, ℕ, zero, suc, ◌+◌, ◌<◌, Bool, true, false, not, ◌&&◌, ◌||◌, List, [], ◌∷◌, ◌++◌, length, Some, None, Option, refl, sym, ap, ◌∙◌, subst, inl, inr, ◌⊎◌, append_assoc, arith, take, add-one}
use Rattle.std.proofs.lemmas.List.{append_cancel_left, append-nil}
use Rattle.std.specs.List.{cons_option}
use Rattle.std.proofs.lemmas.Bool.{cases_Bool, eq-eqb, eqb-true, ltb-true, ltb-false}
use Rattle.std.specs.Prelude.{slice_get, ◌^◌, ltb, eqb, max}
use Rattle.std.specs.List.{list_any}
use Rattle.std.specs.Int.{bit_at}
use Rattle.std.specs.Int.Bits.{bit_or}
use Rattle.std.proofs.lemmas.List.Folds.{list_any-append}
use Rattle.std.proofs.lemmas.Nat.Bits.{bit_at-zero, bit_at-lt, bit_at-pow_other, bit_at_or, bit_at_above, same_from_bits}
use Rattle.std.specs.Prelude.{map}
use Rattle.pe_grammar.specs.declared.tree.Tree.{Tree}
use Rattle.pe_grammar.specs.declared.terminal.Token.{Token}
use Rattle.pe_grammar.specs.declared.form.Entry.{Entry}
use Rattle.pe_grammar.specs.declared.form.Form.TheVariants.{Sequence, Choice, Repeat, Clause}
use Rattle.pe_grammar.specs.Derivation.{Derivation, derivation, repeated, leaf, nothing, pair, left, right, done, more, present, absent, once, heads, IsFresh, has, taken, text, front, IsNear, LeavesOut}
use Rattle.pe_grammar.specs.Grammar.{Derives, form_at}
use Rattle.pe_grammar.specs.Table.{starts}
use Rattle.pe_grammar.specs.Reading.{starts_at}

pub left_nil : (xs ys : List Token) → xs ++ ys ≡ [] → xs ≡ []
left_nil [] ys e = refl
left_nil (x ∷ xs) ys e = cc

pub right_nil : (xs ys : List Token) → xs ++ ys ≡ [] → ys ≡ []
right_nil [] ys e = e
right_nil (x ∷ xs) ys e = cc

pub front_append : (xs ys : List Token) (k : ℕ) → front (xs ++ ys) ≡ Some k → (front xs ≡ Some k) ⊎ ((xs ≡ []) × (front ys ≡ Some k))
front_append [] ys k e = inr (refl, e)
front_append (x ∷ xs) ys k e = inl e

pub front_same : (before y rest : List Token) → front y ≡ front rest → front (before ++ y) ≡ front (before ++ rest)
front_same [] y rest e = e
front_same (t ∷ ts) y rest e = refl

-- a text that agrees with the tokens up to the token after before begins as they do
pub agrees : (x before y rest tokens : List Token) → x ≡ before ++ y → front y ≡ front rest → tokens ≡ before ++ rest → front x ≡ front tokens
agrees x before y rest tokens e f s = ap front e ∙ front_same before y rest f ∙ ap front (sym s)

pub take_front : (before rest : List Token) → take (length before) (before ++ rest) ≡ before
take_front [] rest = refl
take_front (t ∷ ts) rest = ap (λ v. t ∷ v) (take_front ts rest)

pub take_next : (before : List Token) (t : Token) (rest : List Token) → take (length before + 1) (before ++ (t ∷ rest)) ≡ before ++ (t ∷ [])
take_next before t rest = rw add-one (take_suc before)
  where
    take_suc : (before : List Token) → take (suc (length before)) (before ++ (t ∷ rest)) ≡ before ++ (t ∷ [])
    take_suc [] = refl
    take_suc (u ∷ us) = ap (λ v. u ∷ v) (take_suc us)

pub nil_of : (xs ys : List Token) → xs ≡ xs ++ ys → ys ≡ []
nil_of xs ys e = sym (append_cancel_left xs [] ys (append-nil xs ∙ e))

-- the parts of a derivation, at the form's own parts
pub pair_parts : (g : List Entry) (n a b : ℕ) (d e : Derivation) → form_at g n ≡ Some (Sequence a b) → Derives g n (pair d e) → Derives g a d × Derives g b e × IsNear d (text e)
pair_parts g n a b d e f h =
    let p : h.0 ≡ a = cc in
    let q : h.1 ≡ b = cc in
    (subst (λ v. Derives g v d) p h.3, subst (λ v. Derives g v e) q h.4, h.5)

pub left_part : (g : List Entry) (n a b : ℕ) (d : Derivation) → form_at g n ≡ Some (Choice a b) → Derives g n (left d) → Derives g a d
left_part g n a b d f h = let p : h.0 ≡ a = cc in subst (λ v. Derives g v d) p h.3

pub right_part : (g : List Entry) (n a b : ℕ) (d : Derivation) → form_at g n ≡ Some (Choice a b) → Derives g n (right d) → Derives g b d
right_part g n a b d f h = let p : h.1 ≡ b = cc in subst (λ v. Derives g v d) p h.3

pub more_parts : (g : List Entry) (n a : ℕ) (d e : Derivation) → form_at g n ≡ Some (Repeat a) → Derives g n (more d e) → Derives g a d × Derives g n e × IsNear d (text e)
more_parts g n a d e f h = let p : h.0 ≡ a = cc in (subst (λ v. Derives g v d) p h.2, h.3, h.4)

pub left_means : (x y z : Bool) → (x || (y && not z)) ≡ true → (x ≡ true) ⊎ ((y ≡ true) × (z ≡ false))
left_means true y z e = inl refl
left_means false true true e = cc
left_means false true false e = inr (refl, refl)
left_means false false z e = cc

pub right_means : (x y z : Bool) → (x || (y && not z)) ≡ false → (x ≡ false) × ((y ≡ false) ⊎ (z ≡ true))
right_means true y z e = cc
right_means false true true e = (refl, inr refl)
right_means false true false e = cc
right_means false false z e = (refl, inl refl)

pub left_by : (x y z : Bool) → (x ≡ true) ⊎ ((y ≡ true) × (z ≡ false)) → (x || (y && not z)) ≡ true
left_by true y z h = refl
left_by false true false h = refl
left_by false true true h = elim h [ inl p ↦ cc | inr p ↦ let q = p.1 in cc ]
left_by false false z h = elim h [ inl p ↦ cc | inr p ↦ let q = p.0 in cc ]

pub right_by : (x y z : Bool) → x ≡ false → (y ≡ false) ⊎ (z ≡ true) → (x || (y && not z)) ≡ false
right_by true y z e h = cc
right_by false true true e h = refl
right_by false true false e h = elim h [ inl p ↦ cc | inr p ↦ cc ]
right_by false false z e h = refl

-- where the tokens begin as n may, there is a first one
pub begun : (g : List Entry) (n : ℕ) (tokens : List Token) → starts_at g n tokens ≡ true → (k : ℕ) × (front tokens ≡ Some k) × (starts g n k ≡ true)
begun g n [] e = cc
begun g n (t ∷ ts) e = (t.kind, refl, e)

pub starts_front : (g : List Entry) (n : ℕ) (tokens : List Token) (k : ℕ) → front tokens ≡ Some k → starts g n k ≡ true → starts_at g n tokens ≡ true
starts_front g n [] k f e = cc
starts_front g n (t ∷ ts) k f e = let q : k ≡ t.kind = cc in subst (λ v. starts g n v ≡ true) q e

pub none_inside : (xs : List Entry) (n : ℕ) → n < length xs → slice_get xs n ≡ None → ⊥
none_inside [] n lt e = absurd (omega arith)
none_inside (x ∷ xs) zero lt e = cc
none_inside (x ∷ xs) (suc n) lt e = none_inside xs n (omega arith) e

-- what is near before what follows its second part is near before both
pub near_before : (d e : Derivation) (after : List Token) → IsNear d (text e) → ((k : ℕ) → front after ≡ Some k → LeavesOut e k ⊎ ((text e ≡ []) × LeavesOut d k) → ⊥) → IsNear d (text e ++ after)
near_before d e after h nr = λ k f o. elim (front_append (text e) after k f) [ inl p ↦ h k p o | inr p ↦ nr k p.1 (inr (p.0, o)) ]

pub near_pair : (d e : Derivation) (m rest : List Token) → IsNear d m → m ≡ text e ++ rest → IsNear e rest → (k : ℕ) → front rest ≡ Some k → LeavesOut e k ⊎ ((text e ≡ []) × LeavesOut d k) → ⊥
near_pair d e m rest x split z k f o = elim o [
  | inl p ↦ z k f p
  | inr p ↦ x k (ap front (split ∙ ap (λ v. v ++ rest) p.0) ∙ f) p.1
]

pub near_within : (d : Derivation) (xs ys m : List Token) → IsNear d m → m ≡ xs ++ ys → IsNear d xs
near_within d [] ys m x split = λ k f o. cc
near_within d (t ∷ xs) ys m x split = λ k f o. x k (ap front split ∙ f) o

pub near_nil : (d : Derivation) (xs : List Token) → xs ≡ [] → IsNear d xs
near_nil d xs e = λ k f o. let q : None ≡ Some k = ap front (sym e) ∙ f in cc

pub clause_part : (g : List Entry) (n w a : ℕ) (t : Token) (d : Derivation) → form_at g n ≡ Some (Clause w a) → Derives g n (present t d) → Derives g a d
clause_part g n w a t d f h = let p : h.1 ≡ a = cc in subst (λ v. Derives g v d) p h.4

-- the sets of numbers
pub zero_none : (n k : ℕ) → n ≡ 0 → has n k ≡ true → ⊥
zero_none n k z h =
    let q : bit_at n k ≡ 1 = eqb-true (bit_at n k) 1 h in
    let p : bit_at n k ≡ 0 = ap (λ v. bit_at v k) z ∙ bit_at-zero k in
    absurd (omega arith)

pub none_zero : (n : ℕ) → ((k : ℕ) → has n k ≡ true → ⊥) → n ≡ 0
none_zero n h = same_from_bits n 0 (λ i. no_bit (bit_at n i) (bit_at-lt n i) (λ e. h i (eq-eqb (bit_at n i) 1 e)) ∙ sym (bit_at-zero i))
  where
    no_bit : (m : ℕ) → m < 2 → (m ≡ 1 → ⊥) → m ≡ 0
    no_bit zero l z = refl
    no_bit (suc zero) l z = absurd (z refl)
    no_bit (suc (suc m)) l z = absurd (omega arith)

pub power_has : (j k : ℕ) → has (2 ^ j) k ≡ true → j ≡ k
power_has j k h = elim (cases_Bool (eqb k j)) [
  | inl e ↦ sym (eqb-true k j e)
  | inr e ↦
      let q : bit_at (2 ^ j) k ≡ 1 = eqb-true (bit_at (2 ^ j) k) 1 h in
      let other : k ≡ j → ⊥ = λ z. let y : eqb k j ≡ true = eq-eqb k j z in cc in
      let p : bit_at (2 ^ j) k ≡ 0 = bit_at-pow_other j k other in
      absurd (omega arith)
]

pub or_has : (x y k : ℕ) → has (bit_or x y) k ≡ true → (has x k ≡ true) ⊎ (has y k ≡ true)
or_has x y k h =
    let q : bit_at (bit_or x y) k ≡ 1 = eqb-true (bit_at (bit_or x y) k) 1 h in
    elim (one_of (bit_at x k) (bit_at y k) (sym (bit_at_or x y k) ∙ q)) [ inl p ↦ inl (eq-eqb (bit_at x k) 1 p) | inr p ↦ inr (eq-eqb (bit_at y k) 1 p) ]
  where
    one_of : (m n : ℕ) → max m n ≡ 1 → (m ≡ 1) ⊎ (n ≡ 1)
    one_of m n e = elim (cases_Bool (eqb m 1)) [
      | inl p ↦ inl (eqb-true m 1 p)
      | inr p ↦ elim (cases_Bool (eqb n 1)) [
        | inl q ↦ inr (eqb-true n 1 q)
        | inr q ↦
            let u : m ≡ 1 → ⊥ = λ z. let y : eqb m 1 ≡ true = eq-eqb m 1 z in cc in
            let v : n ≡ 1 → ⊥ = λ z. let y : eqb n 1 ≡ true = eq-eqb n 1 z in cc in
            absurd (omega (arith, u, v))
      ]
    ]

pub below_bound : (n k : ℕ) → n < 2 ^ 128 → has n k ≡ true → k < 128
below_bound n k small h = elim (cases_Bool (ltb k 128)) [
  | inl e ↦ ltb-true k 128 e
  | inr e ↦
      let q : bit_at n k ≡ 1 = eqb-true (bit_at n k) 1 h in
      let p : bit_at n k ≡ 0 = bit_at_above n 128 k small (ltb-false k 128 e) in
      absurd (omega arith)
]

pub below_or : (k bound : ℕ) → k < suc bound → (k < bound) ⊎ (k ≡ bound)
below_or zero zero l = inr refl
below_or zero (suc b) l = inl (omega arith)
below_or (suc k) zero l = absurd (omega arith)
below_or (suc k) (suc b) l = elim (below_or k b (omega arith)) [ inl p ↦ inl (omega arith) | inr q ↦ inr (ap suc q) ]

-- the heads of a list
abbrev pub Comes : List ℕ → ℕ → Bool
Comes ks k = list_any (λ y. eqb y k) ks

pub or_true_left : (x y : Bool) → x ≡ true → (x || y) ≡ true
or_true_left true y h = refl
or_true_left false y h = cc

pub or_true_right : (x y : Bool) → y ≡ true → (x || y) ≡ true
or_true_right true y h = refl
or_true_right false y h = h

pub comes_before : (ks js : List ℕ) (k : ℕ) → Comes ks k ≡ true → Comes (ks ++ js) k ≡ true
comes_before ks js k h = list_any-append (λ y. eqb y k) ks js ∙ or_true_left (Comes ks k) (Comes js k) h

pub comes_last : (ks : List ℕ) (k : ℕ) → Comes (ks ++ k ∷ []) k ≡ true
comes_last ks k = list_any-append (λ y. eqb y k) ks (k ∷ []) ∙ or_true_right (Comes ks k) (Comes (k ∷ []) k) (or_true_left (eqb k k) (Comes [] k) (eq-eqb k k refl))

pub cons_append : (o : Option ℕ) (xs ys : List ℕ) → cons_option o (xs ++ ys) ≡ cons_option o xs ++ ys
cons_append None xs ys = refl
cons_append (Some x) xs ys = refl

pub heads_push : (ts : List Tree) (t : Tree) (k : ℕ) → front (text (derivation t)) ≡ Some k → heads (repeated (map derivation (ts ++ t ∷ [])) done) ≡ heads (repeated (map derivation ts) done) ++ k ∷ []
heads_push [] t k h = ap (λ o. cons_option o []) h
heads_push (u ∷ ts) t k h =
    ap (λ ks. cons_option (front (text (derivation u))) ks) (heads_push ts t k h)
    ∙ cons_append (front (text (derivation u))) (heads (repeated (map derivation ts) done)) (k ∷ [])

pub fresh_append : (set : ℕ) (used ks : List ℕ) (k : ℕ) → IsFresh set used ks → (taken set (used ++ ks) k ≡ true → ⊥) → IsFresh set used (ks ++ k ∷ [])
fresh_append set used [] k h z = (λ t. z (subst (λ us. taken set us k ≡ true) (sym (append-nil used)) t), tt)
fresh_append set used (j ∷ ks) k h z = (h.0, fresh_append set (used ++ j ∷ []) ks k h.1 (λ t. z (subst (λ us. taken set us k ≡ true) (append_assoc used (j ∷ []) ks) t)))

pub no_heads : (d : Derivation) → text d ≡ [] → heads d ≡ []
no_heads (more d e) h = ap (λ o. cons_option o (heads e)) (ap front (left_nil (text d) (text e) h)) ∙ no_heads e (right_nil (text d) (text e) h)
no_heads (leaf t) h = refl
no_heads nothing h = refl
no_heads (pair d e) h = refl
no_heads (left d) h = refl
no_heads (right d) h = refl
no_heads done h = refl
no_heads (present t d) h = refl
no_heads (absent k) h = refl
no_heads (once d) h = refl

pub front_left : (xs ys : List Token) (k : ℕ) → front xs ≡ Some k → front (xs ++ ys) ≡ Some k
front_left [] ys k h = cc
front_left (x ∷ xs) ys k h = h

-- the list with one more at its end
abbrev pub extended : Derivation → Derivation → Derivation
extended (more d e) z = more d (extended e z)
extended done z = more z done
extended (leaf t) z = leaf t
extended nothing z = nothing
extended (pair d e) z = pair d e
extended (left d) z = left d
extended (right d) z = right d
extended (present t d) z = present t d
extended (absent k) z = absent k
extended (once d) z = once d
