-- Supplies that reach themselves.
use Rattle.std.proofs.Common.{◌≡◌, ◌⊎◌, inl, inr, ℕ, zero, suc, ◌+◌, ◌-◌, ◌<◌, ◌≤◌, Bool, true, false, cond, List, [], ◌∷◌, length, map, get_or, Option, Some, None, refl, ap, sym, ◌∙◌, subst, arith}
use Rattle.std.specs.Prelude.{◌==◌, find, count_by, Contains, unwrap_or}
use Rattle.std.specs.List.{All}
use Rattle.std.specs.Option.{option_map}
use Rattle.std.proofs.lemmas.Bool.{cases_lt, ltb-false, eqb-true, eqb-false, eq-eqb}
use Rattle.std.proofs.lemmas.List.{get_or_default}
use Rattle.std.proofs.lemmas.List.Sums.{sum_by-cons}
use Rattle.std.proofs.lemmas.List.Elements.{All-contains}
use Rattle.pe_supply.specs.Drivers.{drives, is_driven_twice, next_of, Reaches, IsLooped}
use Rattle.pe_supply.specs.WellFormed.{place}
use Rattle.pe_supply.proofs.Repeating.{Twice, twice}

abbrev Edges : Type 0
Edges = List (ℕ × ℕ)

-- each supply is driven at most once
abbrev pub AreOnce : Edges → Type 0
AreOnce edges = (i : ℕ) → is_driven_twice edges i ≡ false

count_cons : (i : ℕ) (e : ℕ × ℕ) (es : Edges) → count_by (drives i) (e ∷ es) ≡ cond (e.0 == i) 1 0 + count_by (drives i) es
count_cons i e es = sum_by-cons (λ x. cond (drives i x) 1 0) e es

count_le : (i : ℕ) (e : ℕ × ℕ) (es : Edges) → count_by (drives i) es ≤ count_by (drives i) (e ∷ es)
count_le i e es = omega (arith, count_cons i e es)

pub once_count : (edges : Edges) → AreOnce edges → (i : ℕ) → count_by (drives i) edges ≤ 1
once_count edges once i = ltb-false 1 (count_by (drives i) edges) (once i)

-- an edge that is there counts
counted_by : (b : Bool) (i : ℕ) (e : ℕ × ℕ) (es : Edges) → (e.0 == i) ≡ b → (e.0 ≡ i) ⊎ (1 ≤ count_by (drives i) es) → 1 ≤ cond b 1 0 + count_by (drives i) es
counted_by true i e es t h = omega arith
counted_by false i e es t h = elim h [ inl same ↦ absurd (eqb-false e.0 i t same) | inr l ↦ omega arith ]

pub counted : (edges : Edges) (k : ℕ) (d : ℕ × ℕ) → k < length edges → 1 ≤ count_by (drives (get_or edges k d).0) edges
counted [] k d l = absurd (omega arith)
counted (e ∷ es) zero d l = let h : 1 ≤ cond (e.0 == e.0) 1 0 + count_by (drives e.0) es = counted_by (e.0 == e.0) e.0 e es refl (inl refl) in omega (arith, count_cons e.0 e es)
counted (e ∷ es) (suc k) d l =
    let inside : k < length es = omega arith in
    let i = (get_or es k d).0 in
    omega (arith, count_le (get_or es k d).0 e es, counted es k d inside)

-- the outputs are apart
abbrev pub outputs_of : Edges → List ℕ
outputs_of edges = map (λ e. e.0) edges

abbrev AtMostOne : Edges → Type 0
AtMostOne edges = (i : ℕ) → count_by (drives i) edges ≤ 1

apart_by : (b : Bool) (e : ℕ × ℕ) (es : Edges) (k : ℕ) (d : ℕ × ℕ) → k < length es → AtMostOne (e ∷ es) → (e.0 == (get_or es k d).0) ≡ b → place (outputs_of es) (get_or es k d).0 ≡ k
    → cond b 0 (1 + place (outputs_of es) (get_or es k d).0) ≡ suc k
apart_by true e es k d l most t h =
    let one : ◌≡◌ {A = ℕ} (cond (e.0 == (get_or es k d).0) 1 0) 1 = ap (λ b. cond b 1 0) t in
    absurd (omega (arith, most (get_or es k d).0, count_cons (get_or es k d).0 e es, one, counted es k d l))
apart_by false e es k d l most t h = omega (arith, h)

outputs_apart : (edges : Edges) → AtMostOne edges → (k : ℕ) (d : ℕ × ℕ) → k < length edges → place (outputs_of edges) (get_or edges k d).0 ≡ k
outputs_apart [] most k d l = absurd (omega arith)
outputs_apart (e ∷ es) most zero d l = let same : (e.0 == e.0) ≡ true = eq-eqb e.0 e.0 refl in rw same refl
outputs_apart (e ∷ es) most (suc k) d l =
    let inside : k < length es = omega arith in
    apart_by (e.0 == (get_or es k d).0) e es k d inside most refl (outputs_apart es (λ i. omega (arith, most i, count_le i e es)) k d inside)

pub place_output : (edges : Edges) → AreOnce edges → (k : ℕ) (d : ℕ × ℕ) → k < length edges → place (outputs_of edges) (get_or edges k d).0 ≡ k
place_output edges once = outputs_apart edges (once_count edges once)

-- so an output has one input
pub one_input : (edges : Edges) → AreOnce edges → (i k m : ℕ) → Contains edges (i, k) → Contains edges (i, m) → k ≡ m
one_input edges once i k m a b =
    let pa : place (outputs_of edges) i ≡ a.0 = sym (ap (λ e. place (outputs_of edges) e.0) a.2) ∙ place_output edges once a.0 (i, k) a.1 in
    let pb : place (outputs_of edges) i ≡ b.0 = sym (ap (λ e. place (outputs_of edges) e.0) b.2) ∙ place_output edges once b.0 (i, m) b.1 in
    let same : a.0 ≡ b.0 = sym pa ∙ pb in
    let at : get_or edges a.0 (i, k) ≡ get_or edges b.0 (i, m) = ap (λ n. get_or edges n (i, k)) same ∙ get_or_default edges b.0 (i, k) (i, m) b.1 in
    ap (λ e. e.1) (sym a.2 ∙ at ∙ b.2)

-- what a search finds
pub found_is : (edges : Edges) (i : ℕ) (e : ℕ × ℕ) → find (drives i) edges ≡ Some e → Contains edges e × (e.0 ≡ i)
found_is [] i e h = cc
found_is (x ∷ xs) i e h = at (x.0 == i) refl h (found_is xs i e)
  where
    at : (b : Bool) → (x.0 == i) ≡ b → cond b (Some x) (find (drives i) xs) ≡ Some e → (find (drives i) xs ≡ Some e → Contains xs e × (e.0 ≡ i)) → Contains (x ∷ xs) e × (e.0 ≡ i)
    at true t h go = let same : x ≡ e = cc in ((0, omega arith, same), sym (ap (λ v. v.0) same) ∙ eqb-true x.0 i t)
    at false t h go = let more = go h in ((suc more.0.0, omega (arith, more.0.1), more.0.2), more.1)

none_there : (x : ℕ × ℕ) (xs : Edges) (i k n : ℕ) → (x.0 == i) ≡ false → (Contains xs (i, k) → ⊥) → n < length (x ∷ xs) → get_or (x ∷ xs) n (i, k) ≡ (i, k) → ⊥
none_there x xs i k zero t go l e = eqb-false x.0 i t (ap (λ v. v.0) e)
none_there x xs i k (suc n) t go l e = go (n, omega arith, e)

pub found_none : (edges : Edges) (i k : ℕ) → find (drives i) edges ≡ None → Contains edges (i, k) → ⊥
found_none [] i k h c = absurd (omega (arith, c.1))
found_none (x ∷ xs) i k h c = at (x.0 == i) refl h (found_none xs i k)
  where
    at : (b : Bool) → (x.0 == i) ≡ b → cond b (Some x) (find (drives i) xs) ≡ None → (find (drives i) xs ≡ None → Contains xs (i, k) → ⊥) → ⊥
    at true t h go = cc
    at false t h go = none_there x xs i k c.0 t (go h) c.1 c.2

by_option : (o : Option (ℕ × ℕ)) (n : ℕ) → option_map (λ e. e.1) o ≡ Some n → (e : ℕ × ℕ) × (o ≡ Some e) × (e.1 ≡ n)
by_option None n h = cc
by_option (Some e) n h = (e, refl, cc)

none_option : (o : Option (ℕ × ℕ)) → option_map (λ e. e.1) o ≡ None → o ≡ None
none_option None h = refl
none_option (Some e) h = cc

pub next_some : (edges : Edges) (i n : ℕ) → next_of edges i ≡ Some n → Contains edges (i, n)
next_some edges i n h =
    let e = by_option (find (drives i) edges) n h in
    let is = found_is edges i e.0 e.1 in
    let same : e.0 ≡ (i, n) = pair e.0 is.1 e.2 in
    subst (λ v. Contains edges v) same is.0
  where
    pair : (e : ℕ × ℕ) → e.0 ≡ i → e.1 ≡ n → e ≡ (i, n)
    pair e p q = ap (λ a. (a, e.1)) p ∙ ap (λ b. (i, b)) q

pub next_none : (edges : Edges) (i k : ℕ) → next_of edges i ≡ None → Contains edges (i, k) → ⊥
next_none edges i k h = found_none edges i k (none_option (find (drives i) edges) h)

-- one switch more
pub reach_on : (edges : Edges) (n m i j k : ℕ) → Reaches edges n i j → Reaches edges m j k → Reaches edges (n + m) i k
reach_on edges zero m i j k h r = let P : ℕ → Type 0 = λ x. Reaches edges m x k in let Q : ℕ → Type 0 = λ x. Reaches edges x i k in let e : m ≡ 0 + m = omega arith in subst Q e (subst P (sym h) r)
reach_on edges (suc n) m i j k h r =
    let Q : ℕ → Type 0 = λ x. Reaches edges x i k in
    let e : suc (n + m) ≡ suc n + m = omega arith in
    subst Q e (h.0, h.1, reach_on edges n m h.0 j k h.2 r)

pub reach_more : (edges : Edges) (n i j k : ℕ) → Reaches edges n i j → Contains edges (j, k) → Reaches edges (n + 1) i k
reach_more edges n i j k h c = reach_on edges n 1 i j k h (k, c, refl)

-- a part of the way
pub reach_split : (edges : Edges) (n m i k : ℕ) → Reaches edges (n + m) i k → (j : ℕ) × Reaches edges n i j × Reaches edges m j k
reach_split edges zero m i k h = let P : ℕ → Type 0 = λ x. Reaches edges x i k in let e : 0 + m ≡ m = omega arith in (i, refl, subst P e h)
reach_split edges (suc n) m i k h =
    let P : ℕ → Type 0 = λ x. Reaches edges x i k in
    let e : suc n + m ≡ suc (n + m) = omega arith in
    let r : Reaches edges (suc (n + m)) i k = subst P e h in
    let s = reach_split edges n m r.0 k r.2 in
    (s.0, (r.0, r.1, s.1), s.2)

-- the way is one
pub reach_one : (edges : Edges) → AreOnce edges → (n i j k : ℕ) → Reaches edges n i j → Reaches edges n i k → j ≡ k
reach_one edges once zero i j k h r = sym h ∙ r
reach_one edges once (suc n) i j k h r =
    let same : h.0 ≡ r.0 = one_input edges once i h.0 r.0 h.1 r.1 in
    let P : ℕ → Type 0 = λ x. Reaches edges n x j in
    reach_one edges once n r.0 j k (subst P same h.2) r.2

-- and stays among the supplies
pub reach_below : (edges : Edges) (count : ℕ) → All (λ e. e.1 < count) edges → (n i j : ℕ) → i < count → Reaches edges n i j → j < count
reach_below edges count inputs zero i j l h = omega (arith, h)
reach_below edges count inputs (suc n) i j l h = let P : ℕ × ℕ → Type 0 = λ e. e.1 < count in reach_below edges count inputs n h.0 j (All-contains P edges (i, h.0) inputs h.1) h.2

-- the supply behind so many switches
abbrev next_or : Edges → ℕ → ℕ
next_or edges i = unwrap_or (next_of edges i) 0

abbrev walk : Edges → ℕ → ℕ → ℕ
walk edges i zero = i
walk edges i (suc n) = walk edges (next_or edges i) n

next_is : (edges : Edges) → AreOnce edges → (i k : ℕ) → Contains edges (i, k) → next_or edges i ≡ k
next_is edges once i k c = at (next_of edges i) refl
  where
    at : (o : Option ℕ) → next_of edges i ≡ o → unwrap_or o 0 ≡ k
    at None e = absurd (next_none edges i k e c)
    at (Some n) e = one_input edges once i n k (next_some edges i n e) c

reach_walk : (edges : Edges) → AreOnce edges → (n i j : ℕ) → Reaches edges n i j → walk edges i n ≡ j
reach_walk edges once zero i j h = h
reach_walk edges once (suc n) i j h = ap (λ x. walk edges x n) (next_is edges once i h.0 h.1) ∙ reach_walk edges once n h.0 j h.2

-- a way over as many switches as there are supplies comes twice to one
pub record Repeat (edges : Edges) (n i j count : ℕ) : Type 0 where
  pub first : ℕ
  pub second : ℕ
  pub at : ℕ
  pub order : first < second
  pub within : second ≤ count
  pub to : Reaches edges first i at
  pub round : Reaches edges (second - first) at at
  pub on : Reaches edges (n - second) at j

pub repeats : (edges : Edges) (count : ℕ) → AreOnce edges → All (λ e. e.1 < count) edges → (n i j : ℕ) → i < count → count ≤ n → Reaches edges n i j → Repeat edges n i j count
repeats edges count once inputs n i j l few h =
    let t : Twice (walk edges i) count = twice count (walk edges i) below in
    let s1 = split t.first (omega (arith, t.order, t.within)) in
    let e1 : n - t.first ≡ (t.second - t.first) + (n - t.second) = omega (arith, t.order, t.within) in
    let s2 = reach_split edges (t.second - t.first) (n - t.second) s1.0 j (subst (λ x. Reaches edges x s1.0 j) e1 s1.2) in
    let there : Reaches edges (t.first + (t.second - t.first)) i s2.0 = reach_on edges t.first (t.second - t.first) i s1.0 s2.0 s1.1 s2.1 in
    let e2 : t.first + (t.second - t.first) ≡ t.second = omega (arith, t.order) in
    let w1 : walk edges i t.first ≡ s1.0 = reach_walk edges once t.first i s1.0 s1.1 in
    let w2 : walk edges i t.second ≡ s2.0 = reach_walk edges once t.second i s2.0 (subst (λ x. Reaches edges x i s2.0) e2 there) in
    let same : s2.0 ≡ s1.0 = sym w2 ∙ sym t.same ∙ w1 in
    record {
      first = t.first;
      second = t.second;
      at = s1.0;
      order = t.order;
      within = t.within;
      to = s1.1;
      round = subst (λ x. Reaches edges (t.second - t.first) s1.0 x) same s2.1;
      on = subst (λ x. Reaches edges (n - t.second) x j) same s2.2;
    }
  where
    split : (k : ℕ) → k ≤ n → (x : ℕ) × Reaches edges k i x × Reaches edges (n - k) x j
    split k m = let e : n ≡ k + (n - k) = omega arith in reach_split edges k (n - k) i j (subst (λ x. Reaches edges x i j) e h)

    below : (k : ℕ) → k ≤ count → walk edges i k < count
    below k m =
        let inside : k ≤ n = omega arith in
        let s = split k inside in
        omega (arith, reach_walk edges once k i s.0 s.1, reach_below edges count inputs k i s.0 l s.1)

-- a supply that reaches itself does so over few switches
pub shortened : (edges : Edges) (count : ℕ) → AreOnce edges → All (λ e. e.1 < count) edges → (i : ℕ) → i < count → (f n : ℕ) → n ≤ f → Reaches edges (suc n) i i → (m : ℕ) × (0 < m) × (m ≤ count) × Reaches edges m i i
shortened edges count once inputs i l zero n le h = (suc n, omega arith, omega arith, h)
shortened edges count once inputs i l (suc f) n le h = elim (cases_lt count (suc n)) [
  | inr short ↦ (suc n, omega arith, short, h)
  | inl long ↦
      let few : count ≤ suc n = omega arith in
      let r = repeats edges count once inputs (suc n) i i l few h in
      let e : r.first + (suc n - r.second) ≡ suc (r.first + (n - r.second)) = omega (arith, r.within, long) in
      let less : r.first + (n - r.second) ≤ f = omega (arith, r.within, r.order, long, le) in
      let way : Reaches edges (r.first + (suc n - r.second)) i i = reach_on edges r.first (suc n - r.second) i r.at i r.to r.on in
      shortened edges count once inputs i l f (r.first + (n - r.second)) less (subst (λ x. Reaches edges x i i) e way)
]

-- no supply that has not come back within as many switches as there are supplies ever does
pub never : (edges : Edges) (count : ℕ) → AreOnce edges → All (λ e. e.1 < count) edges → (i : ℕ) → i < count → ((m : ℕ) → 0 < m → m ≤ count → Reaches edges m i i → ⊥) → IsLooped edges i → ⊥
never edges count once inputs i l none h =
    let s = shortened edges count once inputs i l h.behind h.behind (omega arith) h.back in
    none s.0 s.1 s.2 s.3

-- nor does one whose way has an end
pub ended : (edges : Edges) → AreOnce edges → (i at n : ℕ) → Reaches edges n i at → next_of edges at ≡ None → ((m : ℕ) → 0 < m → m ≤ n → Reaches edges m i i → ⊥) → IsLooped edges i → ⊥
ended edges once i at n here end none h = elim (cases_lt n (suc h.behind)) [
  | inr short ↦ none (suc h.behind) (omega arith) short h.back
  | inl long ↦
      let e : suc h.behind ≡ n + suc (h.behind - n) = omega arith in
      let s = reach_split edges n (suc (h.behind - n)) i i (subst (λ x. Reaches edges x i i) e h.back) in
      let same : s.0 ≡ at = reach_one edges once n i s.0 at s.1 here in
      let out : Reaches edges (suc (h.behind - n)) at i = subst (λ x. Reaches edges (suc (h.behind - n)) x i) same s.2 in
      next_none edges at out.0 end out.1
]

-- a step that has not come back
pub not_back : (edges : Edges) → AreOnce edges → (i n next : ℕ) → Reaches edges (n + 1) i next → (next ≡ i → ⊥) → ((m : ℕ) → 0 < m → m ≤ n → Reaches edges m i i → ⊥) → (m : ℕ) → 0 < m → m ≤ n + 1 → Reaches edges m i i → ⊥
not_back edges once i n next here other none m more within back = elim (cases_lt n m) [
  | inr short ↦ none m more short back
  | inl long ↦ let e : m ≡ n + 1 = omega arith in other (reach_one edges once (n + 1) i next i here (subst (λ x. Reaches edges x i i) e back))
]
