-- How many switches drive each supply, counted edge by edge.
use Rattle.std.proofs.Common.{◌≡◌, ◌≢◌, ℕ, ◌+◌, ◌<◌, ◌≤◌, Bool, true, false, List, [], length, get_or, take, set, count_by, refl, ap, sym, ◌∙◌, arith}
use Rattle.std.specs.Prelude.{◌==◌, nat_lt, replicate}
use Rattle.std.proofs.lemmas.Bool.{eqb-true, eq-eqb}
use Rattle.std.proofs.lemmas.List.{length-set, length-take, length-replicate, get_or-replicate, get_or_default, get_or-set_same, get_or-set_other}
use Rattle.std.proofs.lemmas.List.Sums.{count_by_more_no, count_by_more_yes, count_by-le-length}
use Rattle.pe_supply.specs.Drivers.{drives, is_driven_twice, AreCounts}

pub no_counts : (count : ℕ) (counts : List ℕ) → counts ≡ replicate count 0 → AreCounts [] count counts
no_counts count counts e = record { long = ap length e ∙ length-replicate count 0; each = λ i l. ap (λ xs. get_or xs i 0) e ∙ get_or-replicate count i 0 0 l }

module _ (edges : List (ℕ × ℕ)) (k : ℕ) (edge : ℕ × ℕ) (l : k < length edges) (is : edge ≡ get_or edges k (0, 0)) (count : ℕ) (counts : List ℕ) (h : AreCounts (take k edges) count counts) where
  -- no count is above the number of edges
  pub count_small : (i : ℕ) → i < length counts → get_or counts i 0 ≤ k
  count_small i m = let within : i < count = omega (arith, h.long) in omega (arith, h.each i within, count_by-le-length (drives i) (take k edges), length-take k edges)

  yes_at : (i : ℕ) → edge.0 ≡ i → count_by (drives i) (take (k + 1) edges) ≡ count_by (drives i) (take k edges) + 1
  yes_at i e = count_by_more_yes (drives i) edges k (0, 0) l (ap (drives i) (sym is) ∙ eq-eqb edge.0 i e)

  no_at : (i : ℕ) → edge.0 ≢ i → count_by (drives i) (take (k + 1) edges) ≡ count_by (drives i) (take k edges)
  no_at i ne = by (edge.0 == i) refl
    where
      by : (b : Bool) → (edge.0 == i) ≡ b → count_by (drives i) (take (k + 1) edges) ≡ count_by (drives i) (take k edges)
      by true e = absurd (ne (eqb-true edge.0 i e))
      by false e = count_by_more_no (drives i) edges k (0, 0) l (ap (drives i) (sym is) ∙ e)

  -- an edge to one of the supplies is counted there
  pub count_in : edge.0 < length counts → AreCounts (take (k + 1) edges) count (set counts edge.0 (get_or counts edge.0 0 + 1))
  count_in within = record { long = length-set counts edge.0 more ∙ h.long; each = λ i m. at i m (edge.0 == i) refl }
    where
      more : ℕ
      more = get_or counts edge.0 0 + 1

      at : (i : ℕ) → i < count → (b : Bool) → (edge.0 == i) ≡ b → get_or (set counts edge.0 (get_or counts edge.0 0 + 1)) i 0 ≡ count_by (drives i) (take (k + 1) edges)
      at i m true e =
          let same : edge.0 ≡ i = eqb-true edge.0 i e in
          let old : get_or counts edge.0 0 ≡ count_by (drives i) (take k edges) = ap (λ j. get_or counts j 0) same ∙ h.each i m in
          ap (λ j. get_or (set counts edge.0 (get_or counts edge.0 0 + 1)) j 0) (sym same)
          ∙ get_or-set_same counts edge.0 (get_or counts edge.0 0 + 1) 0 within
          ∙ ap (λ n. n + 1) old
          ∙ sym (yes_at i same)
      at i m false e =
          let ne : i ≢ edge.0 = λ same. absurd (let x : true ≡ false = sym (eq-eqb edge.0 i (sym same)) ∙ e in cc) in
          get_or-set_other counts edge.0 i (get_or counts edge.0 0 + 1) 0 ne ∙ h.each i m ∙ sym (no_at i (λ same. ne (sym same)))

  -- another edge is passed over
  pub count_out : length counts ≤ edge.0 → AreCounts (take (k + 1) edges) count counts
  count_out past = record { long = h.long; each = λ i m. let ne : edge.0 ≢ i = omega (arith, h.long) in h.each i m ∙ sym (no_at i ne) }

-- what a count says of its supply
module _ (edges : List (ℕ × ℕ)) (count : ℕ) (counts : List ℕ) (h : AreCounts edges count counts) (n : ℕ) (l : n < count) (c : ℕ) (is : c ≡ get_or counts n c) where
  counted : c ≡ count_by (drives n) edges
  counted = let within : n < length counts = omega (arith, h.long) in is ∙ get_or_default counts n c 0 within ∙ h.each n l

  pub several : nat_lt 1 c ≡ is_driven_twice edges n
  several = ap (nat_lt 1) counted
