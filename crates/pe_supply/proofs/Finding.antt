-- First values of names, and where they are found.
use Rattle.std.proofs.Common.{◌≡◌, ℕ, suc, ◌+◌, ◌<◌, Bool, true, false, not, cond, ◌||◌, List, [], ◌∷◌, ◌++◌, length, get_or, take, Option, Some, None, refl, ap, sym, ◌∙◌, subst, arith}
use Rattle.std.specs.Prelude.{slice_get}
use Rattle.std.specs.List.{zip}
use Rattle.std.specs.Option.{option_or}
use Rattle.std.specs.Str.{bytes_eq}
use Rattle.std.proofs.lemmas.List.{length-append, take_more}
use Rattle.std.proofs.lemmas.Slice.Eq.{bytes_eq-Decides}
use Rattle.pe_base.specs.Names.{has_name, place_of}
use Rattle.pe_supply.specs.Lookups.{value_of, AreFirsts}
use Rattle.pe_supply.specs.Numbers.{number_of}

-- the value at the place of a name is that of its first pair
value_at : {A : Type 0} (index : List (List ℕ)) (values : List A) (name : List ℕ) → length index ≡ length values → slice_get values (place_of index name) ≡ value_of (zip index values) name
value_at [] [] name e = refl
value_at [] (v ∷ vs) name e = absurd (omega arith)
value_at (k ∷ ks) [] name e = absurd (omega arith)
value_at {A} (k ∷ ks) (v ∷ vs) name e = by (bytes_eq k name) (value_at ks vs name (omega arith))
  where
    by : (b : Bool) → slice_get vs (place_of ks name) ≡ value_of (zip ks vs) name → slice_get (v ∷ vs) (cond b 0 (1 + place_of ks name)) ≡ cond b (Some v) (value_of (zip ks vs) name)
    by true h = refl
    by false h = let next : 1 + place_of ks name ≡ suc (place_of ks name) = omega arith in rw next h

-- a pair more at the end
value_more : {A : Type 0} (pairs : List (List ℕ × A)) (key : List ℕ) (v : A) (name : List ℕ) → value_of (pairs ++ (key, v) ∷ []) name ≡ option_or (value_of pairs name) (cond (bytes_eq key name) (Some v) None)
value_more [] key v name = refl
value_more {A} (p ∷ ps) key v name = by (bytes_eq p.0 name) (value_more ps key v name)
  where
    end : Option A
    end = cond (bytes_eq key name) (Some v) None

    by : (b : Bool) → value_of (ps ++ (key, v) ∷ []) name ≡ option_or (value_of ps name) end → cond b (Some p.1) (value_of (ps ++ (key, v) ∷ []) name) ≡ option_or (cond b (Some p.1) (value_of ps name)) end
    by true h = refl
    by false h = h

zip_more : {A : Type 0} (index : List (List ℕ)) (values : List A) (key : List ℕ) (v : A) → length index ≡ length values → zip (index ++ key ∷ []) (values ++ v ∷ []) ≡ zip index values ++ (key, v) ∷ []
zip_more [] [] key v e = refl
zip_more [] (w ∷ ws) key v e = absurd (omega arith)
zip_more (k ∷ ks) [] key v e = absurd (omega arith)
zip_more (k ∷ ks) (w ∷ ws) key v e = ap (λ ps. (k, w) ∷ ps) (zip_more ks ws key v (omega arith))

-- a name of the index has a value, and with it stays what is found
none_or : {A : Type 0} (o : Option A) → option_or o None ≡ o
none_or None = refl
none_or (Some x) = refl

kept : {A : Type 0} (index : List (List ℕ)) (values : List A) (key : List ℕ) (v : A) (name : List ℕ) → length index ≡ length values → has_name index key ≡ true → option_or (value_of (zip index values) name) (cond (bytes_eq key name) (Some v) None) ≡ value_of (zip index values) name
kept [] values key v name e h = absurd (let x : false ≡ true = h in cc)
kept (k ∷ ks) [] key v name e h = absurd (omega arith)
kept {A} (k ∷ ks) (w ∷ ws) key v name e h = by (bytes_eq k name) (bytes_eq k key) refl refl (kept ks ws key v name (omega arith))
  where
    end : Option A
    end = cond (bytes_eq key name) (Some v) None

    none_at : (b : Bool) → bytes_eq key name ≡ b → bytes_eq k name ≡ false → bytes_eq k key ≡ true → option_or (value_of (zip ks ws) name) (cond b (Some v) None) ≡ value_of (zip ks ws) name
    none_at true d p q = absurd (let same : k ≡ key = (bytes_eq-Decides k key).0 q in let x : true ≡ false = sym d ∙ ap (λ n. bytes_eq n name) (sym same) ∙ p in cc)
    none_at false d p q = none_or (value_of (zip ks ws) name)

    by : (b c : Bool) → bytes_eq k name ≡ b → bytes_eq k key ≡ c → (has_name ks key ≡ true → option_or (value_of (zip ks ws) name) end ≡ value_of (zip ks ws) name) → option_or (cond b (Some w) (value_of (zip ks ws) name)) end ≡ cond b (Some w) (value_of (zip ks ws) name)
    by true c p q more = refl
    by false true p q more = none_at (bytes_eq key name) refl p q
    by false false p q more = more (let x : (bytes_eq k key || has_name ks key) ≡ true = h in rw q at x)

pub no_firsts : {A : Type 0} → AreFirsts {A = A} [] [] []
no_firsts = record { beside = refl; first = λ name. refl }

module _ {A : Type 0} (pairs : List (List ℕ × A)) (index : List (List ℕ)) (values : List A) (h : AreFirsts pairs index values) (key : List ℕ) (v : A) where
  -- a new name has its value behind the others
  pub firsts_new : AreFirsts (pairs ++ (key, v) ∷ []) (index ++ key ∷ []) (values ++ v ∷ [])
  firsts_new = record {
    beside = omega (arith, length-append index (key ∷ []), length-append values (v ∷ []), h.beside);
    first = λ name.
        ap (λ ps. value_of ps name) (zip_more index values key v h.beside)
        ∙ value_more (zip index values) key v name
        ∙ ap (λ o. option_or o (cond (bytes_eq key name) (Some v) None)) (h.first name)
        ∙ sym (value_more pairs key v name);
  }

  -- and one that was there has the value that it had
  pub firsts_old : has_name index key ≡ true → AreFirsts (pairs ++ (key, v) ∷ []) index values
  firsts_old there = record {
    beside = h.beside;
    first = λ name.
        sym (kept index values key v name h.beside there)
        ∙ ap (λ o. option_or o (cond (bytes_eq key name) (Some v) None)) (h.first name)
        ∙ sym (value_more pairs key v name);
  }

-- so the value of a name is found by its place
pub first_at : {A : Type 0} (pairs : List (List ℕ × A)) (index : List (List ℕ)) (values : List A) → AreFirsts pairs index values → (name : List ℕ) → slice_get values (place_of index name) ≡ value_of pairs name
first_at pairs index values h name = value_at index values name h.beside ∙ h.first name

-- what is not new is there
pub there_by : (b : Bool) → not b ≡ false → b ≡ true
there_by true e = refl
there_by false e = sym e

-- one pair more
module _ {A : Type 0} (pairs : List (List ℕ × A)) (i : ℕ) (pair : List ℕ × A) (l : i < length pairs) (is : pair ≡ get_or pairs i pair) (index : List (List ℕ)) (values : List A) (h : AreFirsts (take i pairs) index values) where
  taken : take (i + 1) pairs ≡ take i pairs ++ pair ∷ []
  taken = take_more pairs i pair l ∙ ap (λ p. take i pairs ++ p ∷ []) (sym is)

  pub step_new : AreFirsts (take (i + 1) pairs) (index ++ pair.0 ∷ []) (values ++ pair.1 ∷ [])
  step_new = subst (λ ps. AreFirsts ps (index ++ pair.0 ∷ []) (values ++ pair.1 ∷ [])) (sym taken) (firsts_new (take i pairs) index values h pair.0 pair.1)

  pub step_old : has_name index pair.0 ≡ true → AreFirsts (take (i + 1) pairs) index values
  step_old there = subst (λ ps. AreFirsts ps index values) (sym taken) (firsts_old (take i pairs) index values h pair.0 pair.1 there)

-- the number of a name, where it has one
pub number_some : (names : List (List ℕ × ℕ)) (name : List ℕ) (n : ℕ) → value_of names name ≡ Some n → n ≡ number_of names name
number_some [] name n e = absurd (let x : ◌≡◌ {A = Option ℕ} None (Some n) = e in cc)
number_some (p ∷ ps) name n e = by (bytes_eq p.0 name) e (number_some ps name n)
  where
    by : (b : Bool) → cond b (Some p.1) (value_of ps name) ≡ Some n → (value_of ps name ≡ Some n → n ≡ number_of ps name) → n ≡ cond b p.1 (number_of ps name)
    by true k more = let x : Some p.1 ≡ Some n = k in cc
    by false k more = more k

pub number_none : (names : List (List ℕ × ℕ)) (name : List ℕ) → value_of names name ≡ None → 0 ≡ number_of names name
number_none [] name e = refl
number_none (p ∷ ps) name e = by (bytes_eq p.0 name) e (number_none ps name)
  where
    by : (b : Bool) → cond b (Some p.1) (value_of ps name) ≡ None → (value_of ps name ≡ None → 0 ≡ number_of ps name) → 0 ≡ cond b p.1 (number_of ps name)
    by true k more = absurd (let x : Some p.1 ≡ None = k in cc)
    by false k more = more k
