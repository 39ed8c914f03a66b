-- Supplies that are driven once, from roots.
use Rattle.std.proofs.Common.{◌≡◌, inl, inr, ℕ, zero, suc, ◌+◌, ◌-◌, ◌<◌, ◌≤◌, Bool, true, false, cond, ◌||◌, List, [], ◌∷◌, ◌++◌, length, map, slice_index, get_or, refl, ap, sym, ◌∙◌, subst, arith, length-append, append-nil, zero-add}
use Rattle.std.specs.Prelude.{◌==◌, filter}
use Rattle.std.specs.List.{All, list_any, range_with_len}
use Rattle.std.proofs.lemmas.Bool.{cases_lt, false≢true, not-false, not_from_true, eq-eqb}
use Rattle.std.proofs.lemmas.List.{get_or_append_left, get_or-append_right, length-map}
use Rattle.std.proofs.lemmas.List.Elements.{All-filter, filter_passes}
use Rattle.std.proofs.lemmas.List.FromFn.{get_or-range_with_len, length-range_with_len}
use Rattle.pe_supply.specs.Drivers.{drives, is_root}
use Rattle.pe_supply.specs.WellFormed.{place}
use Rattle.pe_supply.proofs.Gatherings.{filter_range}
use Rattle.pe_supply.proofs.Looping.{AreOnce, outputs_of, place_output}
use Rattle.pe_supply.proofs.Places.{place_is, place_left, place_right}
use Rattle.pe_supply.proofs.Repeating.{Twice, twice}

-- each number stands first where it stands
abbrev IsApart : List ℕ → Type 0
IsApart xs = (k : ℕ) → k < length xs → place xs (slice_index xs k) ≡ k

last_at : (xs : List ℕ) (n : ℕ) → slice_index (xs ++ n ∷ []) (length xs) ≡ n
last_at [] n = refl
last_at (x ∷ xs) n = last_at xs n

place_alone : (n : ℕ) → place (n ∷ []) n ≡ 0
place_alone n = let same : (n == n) ≡ true = eq-eqb n n refl in rw same refl

-- a greater number more
apart_push : (xs : List ℕ) (n : ℕ) → IsApart xs → All (λ x. x < n) xs → IsApart (xs ++ n ∷ [])
apart_push xs n h below k l = elim (cases_lt k (length xs)) [
  | inl a ↦
      let at : slice_index (xs ++ n ∷ []) k ≡ slice_index xs k = get_or_append_left xs (n ∷ []) 0 k a in
      let own : place xs (slice_index xs k) < length xs = omega (arith, h k a) in
      ap (place (xs ++ n ∷ [])) at ∙ place_left xs (n ∷ []) (slice_index xs k) own ∙ h k a
  | inr b ↦
      let is : k ≡ length xs = omega (arith, length-append xs (n ∷ [])) in
      let at : slice_index (xs ++ n ∷ []) k ≡ n = ap (slice_index (xs ++ n ∷ [])) is ∙ last_at xs n in
      let outside : length xs ≤ place xs n = elim (cases_lt (place xs n) (length xs)) [
        | inl inside ↦ absurd (omega (arith, place_is xs n inside, below (place xs n) 0 inside))
        | inr o ↦ o
      ] in
      ap (place (xs ++ n ∷ [])) at ∙ place_right xs (n ∷ []) n outside ∙ omega (arith, place_alone n, is)
]

below_all : (p : ℕ → Bool) (n : ℕ) → All (λ x. x < n) (filter p (range_with_len 0 n))
below_all p n =
    let P : ℕ → Type 0 = λ x. x < n in
    All-filter p P (range_with_len 0 n) (λ k d l. let inside : k < n = omega (arith, length-range_with_len 0 n) in omega (arith, get_or-range_with_len 0 n k d inside))

pass_more_by : (b : Bool) (p : ℕ → Bool) (n : ℕ) → p n ≡ b → IsApart (filter p (range_with_len 0 n)) → IsApart (filter p (range_with_len 0 n) ++ cond b (n ∷ []) [])
pass_more_by true p n e h = apart_push (filter p (range_with_len 0 n)) n h (below_all p n)
pass_more_by false p n e h = subst IsApart (sym (append-nil (filter p (range_with_len 0 n)))) h

passing_apart : (p : ℕ → Bool) (n : ℕ) → IsApart (filter p (range_with_len 0 n))
passing_apart p zero = λ k l. absurd (omega arith)
passing_apart p (suc n) =
    let one : suc n ≡ n + 1 = omega arith in
    subst (λ m. IsApart (filter p (range_with_len 0 m))) (sym one) (subst IsApart (sym (filter_range p n)) (pass_more_by (p n) p n refl (passing_apart p n)))

contains_filter : (p : ℕ → Bool) (xs : List ℕ) (k i : ℕ) → k < length xs → slice_index xs k ≡ i → p i ≡ true → place (filter p xs) i < length (filter p xs)
contains_filter p [] k i l e t = absurd (omega arith)
contains_filter p (x ∷ xs) zero i l e t =
    let here : p x ≡ true = ap p e ∙ t in
    let same : (x == i) ≡ true = eq-eqb x i e in
    rw (here, same) (omega arith)
contains_filter p (x ∷ xs) (suc k) i l e t = by (p x) (contains_filter p xs k i (omega arith) e t)
  where
    front : (b : Bool) (q n : ℕ) → q < n → cond b 0 (1 + q) < suc n
    front true q n l = omega arith
    front false q n l = omega arith

    by : (b : Bool) → place (filter p xs) i < length (filter p xs) → place (cond b (x ∷ filter p xs) (filter p xs)) i < length (cond b (x ∷ filter p xs) (filter p xs))
    by true h = front (x == i) (place (filter p xs) i) (length (filter p xs)) h
    by false h = h

output_there : (edges : List (ℕ × ℕ)) (i : ℕ) → list_any (drives i) edges ≡ true → place (outputs_of edges) i < length (outputs_of edges)
output_there [] i e = absurd (false≢true e)
output_there (x ∷ xs) i e = by (x.0 == i) e (output_there xs i)
  where
    by : (b : Bool) → (b || list_any (drives i) xs) ≡ true → (list_any (drives i) xs ≡ true → place (outputs_of xs) i < length (outputs_of xs)) → cond b 0 (1 + place (outputs_of xs) i) < suc (length (outputs_of xs))
    by true e go = omega arith
    by false e go = let more : place (outputs_of xs) i < length (outputs_of xs) = go e in omega arith

output_drives : (edges : List (ℕ × ℕ)) (k : ℕ) → k < length edges → list_any (drives (slice_index (outputs_of edges) k)) edges ≡ true
output_drives [] k l = absurd (omega arith)
output_drives (x ∷ xs) zero l = let same : (x.0 == x.0) ≡ true = eq-eqb x.0 x.0 refl in rw same refl
output_drives (x ∷ xs) (suc k) l = or_right (x.0 == slice_index (outputs_of xs) k) (list_any (drives (slice_index (outputs_of xs) k)) xs) (output_drives xs k (omega arith))
  where
    or_right : (a b : Bool) → b ≡ true → (a || b) ≡ true
    or_right true b e = refl
    or_right false b e = e

map_at : (f : ℕ × ℕ → ℕ) (xs : List (ℕ × ℕ)) (k : ℕ) (d : ℕ × ℕ) → k < length xs → slice_index (map f xs) k ≡ f (get_or xs k d)
map_at f [] k d l = absurd (omega arith)
map_at f (x ∷ xs) zero d l = refl
map_at f (x ∷ xs) (suc k) d l = map_at f xs k d (omega arith)

-- the roots and then the outputs of switches
module _ (edges : List (ℕ × ℕ)) (count : ℕ) (once : AreOnce edges) (outs : All (λ e. e.0 < count) edges) where
  abbrev pub roots : List ℕ
  roots = filter (is_root edges) (range_with_len 0 count)

  abbrev pub all : List ℕ
  all = filter (is_root edges) (range_with_len 0 count) ++ outputs_of edges

  zero_pair : ℕ × ℕ
  zero_pair = (0, 0)

  output_at : (k : ℕ) → k < length (outputs_of edges) → place (outputs_of edges) (slice_index (outputs_of edges) k) ≡ k
  output_at k l =
      let inside : k < length edges = omega (arith, length-map edges (λ e. e.0)) in
      ap (place (outputs_of edges)) (map_at (λ e. e.0) edges k (0, 0) inside) ∙ place_output edges once k (0, 0) inside

  not_root : (k : ℕ) → k < length (outputs_of edges) → length roots ≤ place roots (slice_index (outputs_of edges) k)
  not_root k l = elim (cases_lt (place roots (slice_index (outputs_of edges) k)) (length roots)) [
    | inr o ↦ o
    | inl inside ↦
        let o = slice_index (outputs_of edges) k in
        let kin : k < length edges = omega (arith, length-map edges (λ e. e.0)) in
        let P : ℕ → Type 0 = λ x. is_root edges x ≡ true in
        let free : is_root edges (slice_index (outputs_of edges) k) ≡ true =
        subst P (place_is roots (slice_index (outputs_of edges) k) inside) (filter_passes (is_root edges) (range_with_len 0 count) (place roots (slice_index (outputs_of edges) k)) 0 inside) in
        absurd (false≢true (sym (not_from_true (list_any (drives (slice_index (outputs_of edges) k)) edges) (output_drives edges k kin)) ∙ free))
  ]

  pub all_once : (k : ℕ) → k < length all → place all (slice_index all k) ≡ k
  all_once k l = elim (cases_lt k (length roots)) [
    | inl a ↦
        let at : slice_index all k ≡ slice_index roots k = get_or_append_left roots (outputs_of edges) 0 k a in
        let own = passing_apart (is_root edges) count k a in
        ap (place all) at ∙ place_left roots (outputs_of edges) (slice_index roots k) (omega (arith, own)) ∙ own
    | inr b ↦
        let at : slice_index all k ≡ slice_index (outputs_of edges) (k - length roots) = get_or-append_right roots (outputs_of edges) (length roots) k 0 refl b in
        let inside : k - length roots < length (outputs_of edges) = omega (arith, length-append roots (outputs_of edges)) in
        ap (place all) at
        ∙ place_right roots (outputs_of edges) (slice_index (outputs_of edges) (k - length roots)) (not_root (k - length roots) inside)
        ∙ omega (arith, output_at (k - length roots) inside)
  ]

  pub all_below : (k : ℕ) → k < length all → slice_index all k < count
  all_below k l = elim (cases_lt k (length roots)) [
    | inl a ↦ omega (arith, get_or_append_left roots (outputs_of edges) 0 k a, below_all (is_root edges) count k 0 a)
    | inr b ↦
        let at : slice_index all k ≡ slice_index (outputs_of edges) (k - length roots) = get_or-append_right roots (outputs_of edges) (length roots) k 0 refl b in
        let inside : k - length roots < length edges = omega (arith, length-append roots (outputs_of edges), length-map edges (λ e. e.0)) in
        omega (arith, at, map_at (λ e. e.0) edges (k - length roots) (0, 0) inside, outs (k - length roots) (0, 0) inside)
  ]

  reached_by : (b : Bool) (i : ℕ) → is_root edges i ≡ b → i < count → place all i < length all
  reached_by true i e l =
      let inside : i < length (range_with_len 0 count) = omega (arith, length-range_with_len 0 count) in
      let there = contains_filter (is_root edges) (range_with_len 0 count) i i inside (get_or-range_with_len 0 count i 0 l ∙ zero-add i) e in
      omega (arith, place_left roots (outputs_of edges) i there, length-append roots (outputs_of edges), there)
  reached_by false i e l =
      let there = output_there edges i (not-false (list_any (drives i) edges) e) in
      elim (cases_lt (place roots i) (length roots)) [
        | inl a ↦ omega (arith, place_left roots (outputs_of edges) i a, length-append roots (outputs_of edges), a)
        | inr b ↦ omega (arith, place_right roots (outputs_of edges) i b, length-append roots (outputs_of edges), there)
      ]

  pub all_reached : (i : ℕ) → i < count → place all i < length all
  all_reached i l = reached_by (is_root edges i) i refl l

  not_more : count < length all → ⊥
  not_more l =
      let t : Twice (slice_index all) count = twice count (slice_index all) (λ k m. all_below k (omega arith)) in
      omega (arith, all_once t.first (omega (arith, t.order, t.within)), all_once t.second (omega (arith, t.within)), ap (place all) t.same, t.order)

  not_fewer : length all < count → ⊥
  not_fewer l =
      let t : Twice (place all) (length all) = twice (length all) (place all) (λ k m. all_reached k (omega arith)) in
      let first : t.first < count = omega (arith, t.order, t.within) in
      let second : t.second < count = omega (arith, t.within) in
      omega (arith, place_is all t.first (all_reached t.first first), place_is all t.second (all_reached t.second second), ap (slice_index all) t.same, t.order)

  -- so each supply is driven once
  pub all_size : length all ≡ count
  all_size =
      let a : count < length all → ⊥ = not_more in
      let b : length all < count → ⊥ = not_fewer in
      omega arith
