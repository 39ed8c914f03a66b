-- One list of states is settled, and it is the one that is found from outputs to inputs.
use Rattle.std.proofs.Common.{◌≡◌, ℕ, zero, suc, ◌+◌, ◌-◌, ◌<◌, ◌≤◌, Bool, true, false, cond, ◌&&◌, ◌||◌, List, ◌∷◌, length, map, slice_index, get_or, take, drop, refl, ap, sym, ◌∙◌, arith, length-append}
use Rattle.std.specs.Prelude.{nat_lt}
use Rattle.std.specs.List.{range_with_len}
use Rattle.std.proofs.lemmas.Bool.Decides.{nat_tests}
use Rattle.std.proofs.lemmas.List.{same_lists, get_or_default, length-map, at_drop_more}
use Rattle.std.proofs.lemmas.List.FromFn.{length-map-range_with_len, get_or-map-range_with_len}
use Rattle.pe_base.specs.declared.value.Val.{Val}
use Rattle.pe_supply.specs.declared.supplies.Supplies.{Supplies}
use Rattle.std.proofs.lemmas.List.Sums.{sum_by-drop_more}
use Rattle.pe_supply.specs.declared.supplies.Switch.{Switch}
use Rattle.pe_supply.specs.Rows.{is_on}
use Rattle.pe_supply.specs.States.{IsSettled, conducts, conducting, ports_of, state_of}
use Rattle.pe_supply.specs.WellFormed.{IsWellFormed, count_of, driven, driver, input_of, is_fed, place}
use Rattle.pe_supply.proofs.Places.{place_is, place_left, place_right}

-- what a test says
below : (a b : ℕ) → nat_lt a b ≡ true → a < b
below a b e = grind (arith, nat_tests)

not_below : (a b : ℕ) → nat_lt a b ≡ false → b ≤ a
not_below a b e = grind (arith, nat_tests)

is_below : (a b : ℕ) → a < b → nat_lt a b ≡ true
is_below a b h = grind (arith, nat_tests)

is_not_below : (a b : ℕ) → b ≤ a → nat_lt a b ≡ false
is_not_below a b h = grind (arith, nat_tests)

or_kept : (a b c : Bool) → (b ≡ true → c ≡ true) → (a || b) ≡ true → (a || c) ≡ true
or_kept true b c h e = refl
or_kept false b c h e = h e

-- one switch more may be gone over
pub fed_more : (s : Supplies) (n i : ℕ) → is_fed s n i ≡ true → is_fed s (suc n) i ≡ true
fed_more s zero i h = cc
fed_more s (suc n) i h =
    let k = driver s i - length s.roots in
    or_kept (nat_lt (driver s i) (length s.roots)) (is_fed s n (input_of s k)) (is_fed s (suc n) (input_of s k)) (fed_more s n (input_of s k)) h

same_choice : (test fed a c x y : Bool) → (fed ≡ true → x ≡ y) → (test || fed) ≡ true → cond test a (c && x) ≡ cond test a (c && y)
same_choice true fed a c x y h e = refl
same_choice false fed a c x y h e = ap (λ z. c && z) (h e)

-- and gives the same state
pub state_more : (s : Supplies) (roots conducts : List Bool) (n i : ℕ) → is_fed s n i ≡ true → state_of s roots conducts n i ≡ state_of s roots conducts (suc n) i
state_more s roots conducts zero i h = cc
state_more s roots conducts (suc n) i h =
    let k = driver s i - length s.roots in
    same_choice (nat_lt (driver s i) (length s.roots)) (is_fed s n (input_of s k)) (is_on roots (driver s i)) (is_on conducts k) (state_of s roots conducts n (input_of s k)) (state_of s roots conducts (suc n) (input_of s k))
    (state_more s roots conducts n (input_of s k)) h

-- the state of a root
root_state : (s : Supplies) (roots conducts : List Bool) (n i k : ℕ) → 0 < n → driver s i ≡ k → k < length s.roots → state_of s roots conducts n i ≡ is_on roots k
root_state s roots conducts zero i k more is below = absurd (omega arith)
root_state s roots conducts (suc n) i k more is below = rw (is, is_below k (length s.roots) below) refl

-- the state of the output of a switch
switch_state : (s : Supplies) (roots conducts : List Bool) (n i k : ℕ) → driver s i ≡ length s.roots + k → is_fed s n i ≡ true → state_of s roots conducts n i ≡ (is_on conducts k && state_of s roots conducts n (input_of s k))
switch_state s roots conducts zero i k is fed = absurd (cc)
switch_state s roots conducts (suc n) i k is fed =
    let over : nat_lt (length s.roots + k) (length s.roots) ≡ false = is_not_below (length s.roots + k) (length s.roots) (omega arith) in
    let place : (length s.roots + k) - length s.roots ≡ k = omega arith in
    let before : is_fed s n (input_of s k) ≡ true = rw (is, over, place) at fed in
    rw (is, over, place) (ap (λ x. is_on conducts k && x) (state_more s roots conducts n (input_of s k) before))

-- the same in the words of the two lists that a supply is looked for in
pub state_root : (s : Supplies) (roots conducts : List Bool) (n i : ℕ) → 0 < n → place s.roots i < length s.roots → state_of s roots conducts n i ≡ is_on roots (place s.roots i)
state_root s roots conducts n i more l = root_state s roots conducts n i (place s.roots i) more (place_left s.roots (map (λ w. w.output) s.switches) i l) l

pub state_switch : (s : Supplies) (roots conducts : List Bool) (n i : ℕ) → 0 < n → length s.roots ≤ place s.roots i
    → state_of s roots conducts n i ≡ (is_on conducts (place (map (λ w. w.output) s.switches) i) && state_of s roots conducts (n - 1) (input_of s (place (map (λ w. w.output) s.switches) i)))
state_switch s roots conducts zero i more l = absurd (omega arith)
state_switch s roots conducts (suc n) i more l =
    let k = place (map (λ w. w.output) s.switches) i in
    let is : driver s i ≡ length s.roots + place (map (λ w. w.output) s.switches) i = place_right s.roots (map (λ w. w.output) s.switches) i l in
    let over : nat_lt (length s.roots + place (map (λ w. w.output) s.switches) i) (length s.roots) ≡ false = is_not_below (length s.roots + k) (length s.roots) (omega arith) in
    let at : (length s.roots + place (map (λ w. w.output) s.switches) i) - length s.roots ≡ place (map (λ w. w.output) s.switches) i = omega arith in
    let one : suc n - 1 ≡ n = omega arith in
    rw (is, over, at, one) refl

-- how many are driven
driven_size : (s : Supplies) → length (driven s) ≡ count_of s
driven_size s = simp (length-append, length-map)

-- a settled list has the states that are found
pub settled_is : (s : Supplies) (roots : List Bool) (controls : List Val) (x : List Bool) → IsWellFormed s → IsSettled s roots controls x → (n i : ℕ) → i < count_of s → is_fed s n i ≡ true → is_on x i ≡ state_of s roots (conducting s.switches controls) n i
settled_is s roots controls x w h zero i l fed = absurd (cc)
settled_is s roots controls x w h (suc n) i l fed =
    by_driver (nat_lt (driver s i) (length s.roots)) refl (λ j inside before. settled_is s roots controls x w h n (input_of s j) (w.inputs j inside) before)
  where
    here : slice_index (driven s) (driver s i) ≡ i
    here = let reached : driver s i < length (driven s) = rw (driven_size s) (w.reached i l) in place_is (driven s) i reached

    by_driver : (b : Bool) → nat_lt (driver s i) (length s.roots) ≡ b
        → ((j : ℕ) → j < length s.switches → is_fed s n (input_of s j) ≡ true → is_on x (input_of s j) ≡ state_of s roots (conducting s.switches controls) n (input_of s j))
        → is_on x i ≡ state_of s roots (conducting s.switches controls) (suc n) i
    by_driver true e more = rw e (sym (ap (is_on x) here) ∙ h.root (driver s i) (below (driver s i) (length s.roots) e))
    by_driver false e more =
        let over : length s.roots ≤ driver s i = not_below (driver s i) (length s.roots) e in
        let back : length s.roots + (driver s i - length s.roots) ≡ driver s i = omega arith in
        let inside : driver s i - length s.roots < length s.switches = omega (arith, w.reached i l) in
        let before : is_fed s n (input_of s (driver s i - length s.roots)) ≡ true = rw e at fed in
        let at : slice_index (driven s) (length s.roots + (driver s i - length s.roots)) ≡ i = ap (slice_index (driven s)) back ∙ here in
        rw e (sym (ap (is_on x) at) ∙ h.switch (driver s i - length s.roots) inside ∙ ap (λ on. is_on (conducting s.switches controls) (driver s i - length s.roots) && on) (more (driver s i - length s.roots) inside before))

-- the states that are found
abbrev pub found : Supplies → List Bool → List Val → List Bool
found s roots controls = map (state_of s roots (conducting s.switches controls) (count_of s)) (range_with_len 0 (count_of s))

pub found_at : (s : Supplies) (roots : List Bool) (controls : List Val) (i : ℕ) → i < count_of s → is_on (found s roots controls) i ≡ state_of s roots (conducting s.switches controls) (count_of s) i
found_at s roots controls i l = get_or-map-range_with_len (state_of s roots (conducting s.switches controls) (count_of s)) 0 (count_of s) i i false l (omega arith)

-- they are settled
pub found_settled : (s : Supplies) (roots : List Bool) (controls : List Val) → IsWellFormed s → IsSettled s roots controls (found s roots controls)
found_settled s roots controls w = record {
  size = length-map-range_with_len (state_of s roots (conducting s.switches controls) (count_of s)) 0 (count_of s);
  root = λ k l.
      let inside : k < count_of s = omega arith in
      let i = slice_index (driven s) k in
      let more : 0 < count_of s = omega arith in
      found_at s roots controls (slice_index (driven s) k) (w.below k inside)
      ∙ root_state s roots (conducting s.switches controls) (count_of s) (slice_index (driven s) k) k more (w.once k inside) l;
  switch = λ k l.
      let inside : length s.roots + k < count_of s = omega arith in
      let i = slice_index (driven s) (length s.roots + k) in
      found_at s roots controls (slice_index (driven s) (length s.roots + k)) (w.below (length s.roots + k) inside)
      ∙ switch_state s roots (conducting s.switches controls) (count_of s) (slice_index (driven s) (length s.roots + k)) k (w.once (length s.roots + k) inside) (w.fed (slice_index (driven s) (length s.roots + k)) (w.below (length s.roots + k) inside))
      ∙ ap (λ x. is_on (conducting s.switches controls) k && x) (sym (found_at s roots controls (input_of s k) (w.inputs k l)));
}

-- two settled lists are one
pub settled_one : (s : Supplies) (roots : List Bool) (controls : List Val) (x y : List Bool) → IsWellFormed s → IsSettled s roots controls x → IsSettled s roots controls y → x ≡ y
settled_one s roots controls x y w h k = same_lists x y (h.size ∙ sym k.size) same
  where
    at : (i : ℕ) → i < length x → is_on x i ≡ is_on y i
    at i l =
        let inside : i < count_of s = rw h.size at l in
        settled_is s roots controls x w h (count_of s) i inside (w.fed i inside) ∙ sym (settled_is s roots controls y w k (count_of s) i inside (w.fed i inside))

    same : (i : ℕ) (d : Bool) → i < length x → get_or x i d ≡ get_or y i d
    same i d l =
        let other : i < length y = rw (h.size ∙ sym k.size) at l in
        get_or_default x i d false l ∙ at i l ∙ sym (get_or_default y i d false other)

-- a switch more
pub conducting_step : (switches : List Switch) (i : ℕ) (w : Switch) (rest : List Val) → i < length switches → w ≡ get_or switches i w
    → conducting (drop i switches) rest ≡ conducts w (take (length w.controls) rest) ∷ conducting (drop (i + 1) switches) (drop (length w.controls) rest)
conducting_step switches i w rest l is = at_drop_more (λ ws. conducting ws rest) switches i w l ∙ ap (λ v. conducting (v ∷ drop (i + 1) switches) rest) (sym is)

pub ports_step : (switches : List Switch) (i : ℕ) (w : Switch) → i < length switches → w ≡ get_or switches i w → ports_of (drop i switches) ≡ length w.controls + ports_of (drop (i + 1) switches)
ports_step switches i w l is = sum_by-drop_more (λ v. length v.controls) switches i w l ∙ ap (λ v. length v.controls + ports_of (drop (i + 1) switches)) (sym is)
