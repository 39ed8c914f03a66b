-- A root, a switch from it and a switch from that one's output are well formed.
use Rattle.std.proofs.Common.{◌≡◌, ℕ, zero, suc, ◌-◌, ◌<◌, Bool, true, false, ◌||◌, List, [], ◌∷◌, length, map, slice_index, refl, ap, sym, ◌∙◌, subst, arith}
use Rattle.std.specs.Prelude.{nat_lt}
use Rattle.std.specs.List.{All}
use Rattle.std.proofs.lemmas.List.Elements.{All-cons, All-nil}
use Rattle.std.proofs.lemmas.List.{length-map}
use Rattle.pe_supply.specs.declared.supplies.Supplies.{Supplies}
use Rattle.pe_supply.specs.declared.supplies.Switch.{Switch}
use Rattle.pe_supply.specs.WellFormed.{IsWellFormed, IsSwitch, count_of, driven, driver, input_of, is_fed, place, supplies_named}

three : (P : ℕ → Type 0) → P 0 → P 1 → P 2 → (k : ℕ) → k < 3 → P k
three P a b c zero l = a
three P a b c (suc zero) l = b
three P a b c (suc (suc zero)) l = c
three P a b c (suc (suc (suc k))) l = absurd (omega arith)

two : (P : ℕ → Type 0) → P 0 → P 1 → (k : ℕ) → k < 2 → P k
two P a b zero l = a
two P a b (suc zero) l = b
two P a b (suc (suc k)) l = absurd (omega arith)

-- a list of places, of which each is its own
abbrev numbers : List ℕ
numbers = 0 ∷ 1 ∷ 2 ∷ []

-- fed, by the lists that this reads
fed_lists : List ℕ → ℕ → List ℕ → ℕ → ℕ → Bool
fed_lists d r inputs zero i = false
fed_lists d r inputs (suc n) i = nat_lt (place d i) r || fed_lists d r inputs n (slice_index inputs (place d i - r))

same_fed : (s : Supplies) (n i : ℕ) → is_fed s n i ≡ fed_lists (driven s) (length s.roots) (map (λ w. w.input) s.switches) n i
unfolding fed_lists
same_fed s zero i = refl
same_fed s (suc n) i = ap (λ b. nat_lt (driver s i) (length s.roots) || b) (same_fed s n (input_of s (driver s i - length s.roots)))

all_fed : (i : ℕ) → i < 3 → fed_lists numbers 1 (0 ∷ 1 ∷ []) 3 i ≡ true
unfolding fed_lists
all_fed = three (λ i. fed_lists numbers 1 (0 ∷ 1 ∷ []) 3 i ≡ true) refl refl refl

fed_by : (s : Supplies) → driven s ≡ numbers → map (λ w. w.input) s.switches ≡ 0 ∷ 1 ∷ [] → length s.roots ≡ 1 → (i : ℕ) → i < 3 → is_fed s 3 i ≡ true
fed_by s d e r i l =
    same_fed s 3 i ∙ ap (λ xs. fed_lists xs (length s.roots) (map (λ w. w.input) s.switches) 3 i) d ∙ ap (λ n. fed_lists numbers n (map (λ w. w.input) s.switches) 3 i) r ∙ ap (λ xs. fed_lists numbers 1 xs 3 i) e
    ∙ all_fed i l

pub chain_is : (s : Supplies) (v w : Switch) → supplies_named s ≡ numbers → s.roots ≡ 0 ∷ [] → s.switches ≡ v ∷ w ∷ []
    → v.output ≡ 1 → v.input ≡ 0 → w.output ≡ 2 → w.input ≡ 1 → IsSwitch v → IsSwitch w → s.sets ≡ [] → s.table ≡ [] → s.rows ≡ [] → IsWellFormed s
chain_is s v w names roots switches vo vi wo wi vs ws sets table rows =
    let d : driven s ≡ numbers = rw (roots, switches, vo, wo) refl in
    let e : map (λ w. w.input) s.switches ≡ 0 ∷ 1 ∷ [] = rw (switches, vi, wi) refl in
    let r : length s.roots ≡ 1 = rw roots refl in
    let n : count_of s ≡ 3 = rw (roots, switches) refl in
    record {
      few = rw n (omega arith);
      few_rows = rw rows (omega arith);
      below = λ k l. rw (n, d) (three (λ i. slice_index numbers i < 3) (omega arith) (omega arith) (omega arith) k (rw n at l));
      inputs = λ k l. let m : length s.switches ≡ 2 = rw switches refl in rw (n, e) (two (λ i. slice_index (0 ∷ 1 ∷ []) i < 3) (omega arith) (omega arith) k (rw m at l));
      switches = subst (λ xs. All IsSwitch xs) (sym switches) (All-cons IsSwitch v (w ∷ []) vs (All-cons IsSwitch w [] ws (All-nil IsSwitch)));
      once = λ k l. rw d (three (λ i. place numbers (slice_index numbers i) ≡ i) refl refl refl k (rw n at l));
      reached = λ i l. rw (n, d) (three (λ i. place numbers i < 3) (omega arith) (omega arith) (omega arith) i (rw n at l));
      fed = λ i l. rw n (fed_by s d e r i (rw n at l));
      names =
          let P : ℕ → Type 0 = λ i. i < count_of s in
          subst (λ xs. All P xs) (sym names) (All-cons P 0 (1 ∷ 2 ∷ []) (rw n (omega arith)) (All-cons P 1 (2 ∷ []) (rw n (omega arith)) (All-cons P 2 [] (rw n (omega arith)) (All-nil P))));
      named = λ i l. let ln : length s.names ≡ 3 = sym (length-map s.names (λ name. name.1)) ∙ ap length names in rw (names, ln) (three (λ j. place numbers j < 3) (omega arith) (omega arith) (omega arith) i (rw n at l));
      sets = rw sets (λ k d l. absurd (omega arith));
      table = rw table (λ k d l. absurd (omega arith));
      rows = rw rows (λ k d l. absurd (omega arith));
    }
