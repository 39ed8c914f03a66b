-- Numbers by labels, from the first place on.
use Rattle.std.proofs.Common.{◌≡◌, ◌⊎◌, inl, inr, ℕ, suc, ◌+◌, ◌<◌, ◌≤◌, List, [], ◌∷◌, ◌++◌, length, slice_index, slice_index_or, refl, ap, sym, ◌∙◌, subst, arith}
use Rattle.std.proofs.lemmas.Bool.{cases_lt}
use Rattle.std.proofs.lemmas.List.{length-append, length-map, get_or_append_left}
use Rattle.pe_base.specs.Names.{place_of}
use Rattle.pe_supply.specs.Labels.{AreApart, AreFirst, AreLabelled, AreCounted}
use Rattle.pe_supply.specs.Numbers.{AreOne, AreNumbered, names_in, numbers_in, name_at, number_at, distinct}
use Rattle.pe_supply.proofs.Joining.{along}
use Rattle.pe_supply.proofs.Naming.{distinct_apart}

-- the first k places are counted, with so many numbers
pub record IsCounting (labels : List ℕ) (k : ℕ) (numbers : List ℕ) (count : ℕ) : Type 0 where
  pub counted : AreCounted labels k numbers
  pub few : count ≤ k
  pub below : (j : ℕ) → j < k → slice_index numbers j < count
  pub all : (m : ℕ) → m < count → (j : ℕ) × (j < k) × (slice_index numbers j ≡ m)

pub counting_none : (labels : List ℕ) → IsCounting labels 0 [] 0
counting_none labels = record {
  counted = record { size = refl; same = λ k l. absurd (omega arith); rising = λ j k l m. absurd (omega arith); counted = λ k m l. absurd (omega arith) };
  few = omega arith;
  below = λ j l. absurd (omega arith);
  all = λ m l. absurd (omega arith);
}

push_at : (xs : List ℕ) (y : ℕ) → slice_index (xs ++ y ∷ []) (length xs) ≡ y
push_at [] y = refl
push_at (x ∷ xs) y = push_at xs y

which : (k n : ℕ) → k < n + 1 → (k < n) ⊎ (k ≡ n)
which k n l = elim (cases_lt k n) [ inl a ↦ inl a | inr b ↦ inr (omega arith) ]

module _ (labels : List ℕ) (k : ℕ) (numbers : List ℕ) (count : ℕ) (h : IsCounting labels k numbers count) (first : AreFirst labels) (inside : k < length labels) where
  old : (y j : ℕ) → j < k → slice_index (numbers ++ y ∷ []) j ≡ slice_index numbers j
  old y j l = let m : j < length numbers = omega (arith, h.counted.size) in get_or_append_left numbers (y ∷ []) 0 j m

  last : (y : ℕ) → slice_index (numbers ++ y ∷ []) k ≡ y
  last y = ap (slice_index (numbers ++ y ∷ [])) (sym h.counted.size) ∙ push_at numbers y

  size : (y : ℕ) → length (numbers ++ y ∷ []) ≡ k + 1
  size y = omega (arith, length-append numbers (y ∷ []), h.counted.size)

  label_le : (j : ℕ) → j < k → slice_index labels j < k
  label_le j l = let m : j < length labels = omega arith in omega (arith, first.before j m)

  -- a first place has a new number
  pub counting_first : slice_index labels k ≡ k → IsCounting labels (k + 1) (numbers ++ count ∷ []) (count + 1)
  counting_first own = record {
    counted = record {
      size = size count;
      same = λ j l. elim (which j k l) [
        | inl a ↦ old count j a ∙ h.counted.same j a ∙ sym (old count (slice_index labels j) (label_le j a))
        | inr e ↦ ap (slice_index (numbers ++ count ∷ [])) (e ∙ sym own ∙ ap (slice_index labels) (sym e))
      ];
      rising = λ i j l m oi oj. elim (which j k m) [
        | inl a ↦ let b : i < k = omega arith in omega (arith, h.counted.rising i j l a oi oj, old count i b, old count j a)
        | inr e ↦ let b : i < k = omega arith in omega (arith, h.below i b, old count i b, ap (slice_index (numbers ++ count ∷ [])) e, last count)
      ];
      counted = λ j m l is. elim (which j k l) [
        | inl a ↦ let r = h.counted.counted j m a (sym (old count j a) ∙ is) in let b : r.0 < k = omega (arith, r.1) in (r.0, r.1, old count r.0 b ∙ r.2)
        | inr e ↦
            let top : count ≡ suc m = sym (last count) ∙ ap (slice_index (numbers ++ count ∷ [])) (sym e) ∙ is in
            let lt : m < count = omega arith in
            let r = h.all m lt in
            (r.0, omega (arith, r.1), old count r.0 r.1 ∙ r.2)
      ];
    };
    few = omega (arith, h.few);
    below = λ j l. elim (which j k l) [
      | inl a ↦ omega (arith, old count j a, h.below j a)
      | inr e ↦ omega (arith, ap (slice_index (numbers ++ count ∷ [])) e, last count)
    ];
    all = λ m l. elim (which m count l) [
      | inl a ↦ let r = h.all m a in (r.0, omega (arith, r.1), old count r.0 r.1 ∙ r.2)
      | inr e ↦ (k, omega arith, last count ∙ sym e)
    ];
  }

  -- another place the number of its first one
  abbrev y : ℕ
  y = slice_index numbers (slice_index labels k)

  pub counting_other : slice_index labels k < k → IsCounting labels (k + 1) (numbers ++ slice_index numbers (slice_index labels k) ∷ []) count
  counting_other less = record {
    counted = record {
      size = size y;
      same = λ j l. elim (which j k l) [
        | inl a ↦ old y j a ∙ h.counted.same j a ∙ sym (old y (slice_index labels j) (label_le j a))
        | inr e ↦
            ap (slice_index (numbers ++ y ∷ [])) e ∙ last y ∙ sym (old y (slice_index labels k) less) ∙ ap (λ i. slice_index (numbers ++ y ∷ []) (slice_index labels i)) (sym e)
      ];
      rising = λ i j l m oi oj. elim (which j k m) [
        | inl a ↦ let b : i < k = omega arith in omega (arith, h.counted.rising i j l a oi oj, old y i b, old y j a)
        | inr e ↦ absurd (omega (arith, oj, ap (slice_index labels) e))
      ];
      counted = λ j m l is. elim (which j k l) [
        | inl a ↦ let r = h.counted.counted j m a (sym (old y j a) ∙ is) in let b : r.0 < k = omega (arith, r.1) in (r.0, r.1, old y r.0 b ∙ r.2)
        | inr e ↦
            let r = h.counted.counted (slice_index labels k) m less (sym (last y) ∙ ap (slice_index (numbers ++ y ∷ [])) (sym e) ∙ is) in
            let b : r.0 < k = omega (arith, r.1) in
            (r.0, omega (arith, r.1), old y r.0 b ∙ r.2)
      ];
    };
    few = omega (arith, h.few);
    below = λ j l. elim (which j k l) [
      | inl a ↦ omega (arith, old y j a, h.below j a)
      | inr e ↦ omega (arith, ap (slice_index (numbers ++ y ∷ [])) e, last y, h.below (slice_index labels k) less)
    ];
    all = λ m l. let r = h.all m l in (r.0, omega (arith, r.1), old y r.0 r.1 ∙ r.2);
  }

-- places with one number have one label
pub one_label : (labels numbers : List ℕ) → AreFirst labels → AreCounted labels (length labels) numbers → (j k : ℕ) → j < length labels → k < length labels → slice_index numbers j ≡ slice_index numbers k → slice_index labels j ≡ slice_index labels k
one_label labels numbers first c j k jin kin e =
    let a = slice_index labels j in
    let ain : slice_index labels j < length labels = omega (arith, first.before j jin) in
    let bin : slice_index labels k < length labels = omega (arith, first.before k kin) in
    let same : slice_index numbers (slice_index labels j) ≡ slice_index numbers (slice_index labels k) = sym (c.same j jin) ∙ e ∙ c.same k kin in
    let not_less : slice_index labels j < slice_index labels k → ⊥ = λ l. absurd (omega (arith, c.rising (slice_index labels j) (slice_index labels k) l bin (first.own j jin) (first.own k kin), same)) in
    let not_more : slice_index labels k < slice_index labels j → ⊥ = λ l. absurd (omega (arith, c.rising (slice_index labels k) (slice_index labels j) l ain (first.own k kin) (first.own j jin), same)) in
    omega arith

-- so the names are numbered
pub numbered : (made names : List (List ℕ)) (ties : List (List ℕ × List ℕ)) (labels numbers : List ℕ) (pairs : List (List ℕ × ℕ)) → names ≡ distinct made → AreLabelled names ties labels → AreCounted labels (length labels) numbers
    → names_in pairs ≡ names → numbers_in pairs ≡ numbers → AreNumbered made ties pairs
numbered made names ties labels numbers pairs once l c ns ms = record {
  once = ns ∙ once;
  together = λ j k jin kin. (λ e. forth j k jin kin e, λ e. back j k jin kin e);
  counted = λ k n kin e.
      let r = c.counted k n (within k kin) (number k ∙ e) in
      (r.0, r.1, sym (number r.0) ∙ r.2);
}
  where
    number : (k : ℕ) → slice_index numbers k ≡ number_at pairs k
    number k = ap (λ xs. slice_index xs k) (sym ms)

    name : (k : ℕ) → slice_index_or names k [] ≡ name_at pairs k
    name k = ap (λ xs. slice_index_or xs k []) (sym ns)

    long : length pairs ≡ length names
    long = sym (length-map pairs (λ n. n.0)) ∙ ap length ns

    inside : (k : ℕ) → k < length pairs → k < length names
    inside k kin = omega (arith, long)

    within : (k : ℕ) → k < length pairs → k < length labels
    within k kin = omega (arith, long, l.size)

    apart : AreApart names
    apart = subst AreApart (sym once) (distinct_apart made)

    forth : (j k : ℕ) → j < length pairs → k < length pairs → number_at pairs j ≡ number_at pairs k → AreOne ties (name_at pairs j) (name_at pairs k)
    forth j k jin kin e =
        let labelled = one_label labels numbers l.first c j k (within j jin) (within k kin) (number j ∙ e ∙ sym (number k)) in
        subst (λ n. AreOne ties (name_at pairs j) n) (name k) (subst (λ n. AreOne ties n (slice_index_or names k [])) (name j) (l.one j k (inside j jin) (inside k kin) labelled))

    back : (j k : ℕ) → j < length pairs → k < length pairs → AreOne ties (name_at pairs j) (name_at pairs k) → number_at pairs j ≡ number_at pairs k
    back j k jin kin e =
        let chained : slice_index labels (place_of names (name_at pairs j)) ≡ slice_index labels (place_of names (name_at pairs k)) = along ties (λ n. slice_index labels (place_of names n)) l.tied (name_at pairs j) (name_at pairs k) e.chain e.leads in
        let pj : place_of names (name_at pairs j) ≡ j = ap (place_of names) (sym (name j)) ∙ apart j (inside j jin) in
        let pk : place_of names (name_at pairs k) ≡ k = ap (place_of names) (sym (name k)) ∙ apart k (inside k kin) in
        let labelled : slice_index labels j ≡ slice_index labels k = ap (slice_index labels) (sym pj) ∙ chained ∙ ap (slice_index labels) pk in
        sym (number j) ∙ c.same j (within j jin) ∙ ap (slice_index numbers) labelled ∙ sym (c.same k (within k kin)) ∙ number k
