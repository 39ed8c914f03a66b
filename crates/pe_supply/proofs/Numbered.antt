-- Names have one numbering.
use Rattle.std.proofs.Common.{◌≡◌, inl, inr, ℕ, zero, suc, ◌+◌, ◌-◌, ◌<◌, ◌≤◌, Bool, true, false, cond, ◌||◌, List, [], ◌∷◌, length, get_or, refl, ap, sym, ◌∙◌, subst, arith}
use Rattle.std.specs.Prelude.{max}
use Rattle.std.specs.Str.{bytes_eq}
use Rattle.std.proofs.lemmas.Bool.{cases_lt, false≢true}
use Rattle.std.proofs.lemmas.List.{same_lists, get_or_default, length-map}
use Rattle.pe_base.specs.Names.{has_name}
use Rattle.pe_supply.specs.Numbers.{AreNumbered, AreOne, names_in, numbers_in, name_at, number_at, number_of, supply_count}

-- below a number each one stands before it
pub down : (made : List (List ℕ)) (ties : List (List ℕ × List ℕ)) (names : List (List ℕ × ℕ)) → AreNumbered made ties names → (v f k : ℕ) → k < length names → v < number_at names k → number_at names k ≤ v + f
    → (i : ℕ) × (i < k) × (number_at names i ≡ v)
down made ties names h v zero k kin l le = absurd (omega arith)
down made ties names h v (suc f) k kin l le =
    let is : number_at names k ≡ suc (number_at names k - 1) = omega arith in
    let r = h.counted k (number_at names k - 1) kin is in
    elim (cases_lt v (number_at names r.0)) [
      | inl more ↦
          let rin : r.0 < length names = omega (arith, r.1) in
          let s = down made ties names h v f r.0 rin more (omega (arith, r.2)) in
          (s.0, omega (arith, s.1, r.1), s.2)
      | inr most ↦ (r.0, r.1, omega (arith, r.2))
    ]

module _ (made : List (List ℕ)) (ties : List (List ℕ × List ℕ)) (xs ys : List (List ℕ × ℕ)) (h : AreNumbered made ties xs) (g : AreNumbered made ties ys) where
  same_names : names_in xs ≡ names_in ys
  same_names = h.once ∙ sym g.once

  same_length : length xs ≡ length ys
  same_length = sym (length-map xs (λ n. n.0)) ∙ ap length same_names ∙ length-map ys (λ n. n.0)

  at_name : (k : ℕ) → name_at xs k ≡ name_at ys k
  at_name k = ap (λ ns. get_or ns k []) same_names

  -- names of one number in one numbering have one in the other
  forth : (i k : ℕ) → i < length xs → k < length xs → number_at xs i ≡ number_at xs k → number_at ys i ≡ number_at ys k
  forth i k iin kin e =
      let one : AreOne ties (name_at xs i) (name_at xs k) = (h.together i k iin kin).0 e in
      let other : AreOne ties (name_at ys i) (name_at ys k) = subst (λ n. AreOne ties (name_at ys i) n) (at_name k) (subst (λ n. AreOne ties n (name_at xs k)) (at_name i) one) in
      (g.together i k (omega (arith, same_length)) (omega (arith, same_length))).1 other

  back : (i k : ℕ) → i < length xs → k < length xs → number_at ys i ≡ number_at ys k → number_at xs i ≡ number_at xs k
  back i k iin kin e =
      let one : AreOne ties (name_at ys i) (name_at ys k) = (g.together i k (omega (arith, same_length)) (omega (arith, same_length))).0 e in
      let other : AreOne ties (name_at xs i) (name_at xs k) = subst (λ n. AreOne ties (name_at xs i) n) (sym (at_name k)) (subst (λ n. AreOne ties n (name_at ys k)) (sym (at_name i)) one) in
      (h.together i k iin kin).1 other

  not_less : (k : ℕ) → k < length xs → ((j : ℕ) → j < k → number_at xs j ≡ number_at ys j) → number_at xs k < number_at ys k → ⊥
  not_less k kin before l =
      let kin' : k < length ys = omega (arith, same_length) in
      let r = down made ties ys g (number_at xs k) (number_at ys k) k kin' l (omega arith) in
      let rin : r.0 < length xs = omega (arith, r.1) in
      let same : number_at xs r.0 ≡ number_at xs k = before r.0 r.1 ∙ r.2 in
      omega (arith, forth r.0 k rin kin same, r.2)

  not_more : (k : ℕ) → k < length xs → ((j : ℕ) → j < k → number_at xs j ≡ number_at ys j) → number_at ys k < number_at xs k → ⊥
  not_more k kin before l =
      let r = down made ties xs h (number_at ys k) (number_at xs k) k kin l (omega arith) in
      let rin : r.0 < length xs = omega (arith, r.1) in
      let same : number_at ys r.0 ≡ number_at ys k = sym (before r.0 r.1) ∙ r.2 in
      omega (arith, back r.0 k rin kin same, r.2)

  up_to : (n j : ℕ) → j < n → j < length xs → number_at xs j ≡ number_at ys j
  up_to zero j l jin = absurd (omega arith)
  up_to (suc n) j l jin =
      let before : (i : ℕ) → i < j → number_at xs i ≡ number_at ys i = λ i m. up_to n i (omega arith) (omega arith) in
      let less : number_at xs j < number_at ys j → ⊥ = not_less j jin before in
      let more : number_at ys j < number_at xs j → ⊥ = not_more j jin before in
      omega arith

  same_numbers : numbers_in xs ≡ numbers_in ys
  same_numbers = same_lists (numbers_in xs) (numbers_in ys) long at
    where
      long : length (numbers_in xs) ≡ length (numbers_in ys)
      long = length-map xs (λ n. n.1) ∙ same_length ∙ sym (length-map ys (λ n. n.1))

      at : (k d : ℕ) → k < length (numbers_in xs) → get_or (numbers_in xs) k d ≡ get_or (numbers_in ys) k d
      at k d l =
          let kin : k < length xs = omega (arith, length-map xs (λ n. n.1)) in
          get_or_default (numbers_in xs) k d 0 l ∙ up_to (suc k) k (omega arith) kin ∙ get_or_default (numbers_in ys) k 0 d (omega (arith, long))

pairs_same : (xs ys : List (List ℕ × ℕ)) → names_in xs ≡ names_in ys → numbers_in xs ≡ numbers_in ys → xs ≡ ys
pairs_same [] [] e f = refl
pairs_same [] (y ∷ ys) e f = cc
pairs_same (x ∷ xs) [] e f = cc
pairs_same (x ∷ xs) (y ∷ ys) e f =
    let a : x.0 ≡ y.0 = cc in
    let b : x.1 ≡ y.1 = cc in
    let c : names_in xs ≡ names_in ys = cc in
    let d : numbers_in xs ≡ numbers_in ys = cc in
    ap (λ n. (n, x.1) ∷ xs) a ∙ ap (λ m. (y.0, m) ∷ xs) b ∙ ap (λ zs. y ∷ zs) (pairs_same xs ys c d)

-- a numbering is the only one
pub numbered_one : (made : List (List ℕ)) (ties : List (List ℕ × List ℕ)) (xs ys : List (List ℕ × ℕ)) → AreNumbered made ties xs → AreNumbered made ties ys → xs ≡ ys
numbered_one made ties xs ys h g = pairs_same xs ys (same_names made ties xs ys h g) (same_numbers made ties xs ys h g)

-- the supply of a name that is there is one of the supplies
below_by : (b h : Bool) (n x c : ℕ) → (b || h) ≡ true → (h ≡ true → x < c) → cond b n x < max (n + 1) c
below_by true h n x c e more = omega arith
below_by false h n x c e more = let l : x < c = more e in omega arith

pub number_below : (names : List (List ℕ × ℕ)) (name : List ℕ) → has_name (names_in names) name ≡ true → number_of names name < supply_count names
number_below [] name h = absurd (false≢true h)
number_below (n ∷ ns) name h = below_by (bytes_eq n.0 name) (has_name (names_in ns) name) n.1 (number_of ns name) (supply_count ns) h (number_below ns name)

-- each number is one of the supplies
pub each_below : (names : List (List ℕ × ℕ)) (k : ℕ) → k < length names → number_at names k < supply_count names
each_below [] k l = absurd (omega arith)
each_below (n ∷ ns) zero l = omega arith
each_below (n ∷ ns) (suc k) l = let inside : k < length ns = omega arith in omega (arith, each_below ns k inside)

-- the last supply has a name
pub greatest : (names : List (List ℕ × ℕ)) → 0 < supply_count names → (k : ℕ) × (k < length names) × (number_at names k + 1 ≡ supply_count names)
greatest [] l = absurd (omega arith)
greatest (n ∷ ns) l = elim (cases_lt (n.1 + 1) (supply_count ns)) [
  | inl less ↦ let r = greatest ns (omega arith) in (suc r.0, omega (arith, r.1), omega (arith, r.2))
  | inr more ↦ (0, omega arith, omega arith)
]

-- and so has each
pub each_named : (made : List (List ℕ)) (ties : List (List ℕ × List ℕ)) (names : List (List ℕ × ℕ)) → AreNumbered made ties names → (i : ℕ) → i < supply_count names → (k : ℕ) × (k < length names) × (number_at names k ≡ i)
each_named made ties names h i l =
    let top = greatest names (omega arith) in
    elim (cases_lt i (number_at names top.0)) [
      | inl less ↦ let r = down made ties names h i (number_at names top.0) top.0 top.1 less (omega arith) in (r.0, omega (arith, r.1, top.1), r.2)
      | inr most ↦ (top.0, top.1, omega (arith, top.2))
    ]
