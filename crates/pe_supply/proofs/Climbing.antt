-- Ways up a forest, and what a step of the code changes of its roots.
use Rattle.std.proofs.Common.{◌≡◌, ◌≢◌, inl, inr, ℕ, zero, suc, ◌+◌, ◌<◌, ◌≤◌, true, List, [], ◌∷◌, ◌++◌, length, map, slice_index, set, refl, ap, sym, ◌∙◌, subst, arith, length-set, get_or-set_same, get_or-set_other, zero-add}
use Rattle.std.specs.Prelude.{max, min}
use Rattle.std.specs.List.{range_with_len}
use Rattle.std.proofs.lemmas.Bool.{cases_eq, cases_lt, ne_eqb}
use Rattle.std.proofs.lemmas.Grind.{same_number_lists}
use Rattle.std.proofs.lemmas.List.{length-map}
use Rattle.std.proofs.lemmas.List.FromFn.{length-range_with_len, get_or-range_with_len, length-map-range_with_len, get_or-map-range_with_len}
use Rattle.pe_base.specs.Names.{has_name, place_of}
use Rattle.pe_supply.specs.Forests.{IsForest, climb, root_of, roots_of}
use Rattle.pe_supply.specs.Labels.{relabel, with_joined, AreLabelled}
use Rattle.pe_supply.proofs.Joining.{Ties, at_map, relabel_zero, relabel_from, relabel_other, relabel_to, labelled_tie}
use Rattle.pe_supply.proofs.Naming.{place_in}

-- one step more is one step from the end
climb_up : (above : List ℕ) (n k : ℕ) → climb above (suc n) k ≡ slice_index above (climb above n k)
climb_up above zero k = refl
climb_up above (suc n) k = climb_up above n (slice_index above k)

-- from a root no step leads away
climb_stays : (above : List ℕ) (n k : ℕ) → slice_index above k ≡ k → climb above n k ≡ k
climb_stays above zero k e = refl
climb_stays above (suc n) k e = ap (climb above n) e ∙ climb_stays above n k e

climb_le : (above : List ℕ) (n k : ℕ) → IsForest above → k < length above → climb above n k ≤ k
climb_le above zero k h l = omega arith
climb_le above (suc n) k h l =
    let up : slice_index above k ≤ k = h k l in
    let more : climb above n (slice_index above k) ≤ slice_index above k = climb_le above n (slice_index above k) h (omega arith) in
    omega arith

-- a way of enough steps ends at a root
climb_ends : (above : List ℕ) (n k : ℕ) → IsForest above → k < length above → k ≤ n → slice_index above (climb above n k) ≡ climb above n k
climb_ends above zero k h l few = let up : slice_index above k ≤ k = h k l in omega arith
climb_ends above (suc n) k h l few =
    let up : slice_index above k ≤ k = h k l in
    elim (cases_lt (slice_index above k) k) [
      | inl less ↦ climb_ends above n (slice_index above k) h (omega arith) (omega arith)
      | inr more ↦
          let own : slice_index above k ≡ k = omega arith in
          let stays : climb above n (slice_index above k) ≡ k = climb_stays above (suc n) k own in
          ap (slice_index above) stays ∙ own ∙ sym stays
    ]

root_le : (above : List ℕ) (k : ℕ) → IsForest above → k < length above → root_of above k ≤ k
root_le above k h l = climb_le above (length above) k h l

-- the root over a place is a root
root_ends : (above : List ℕ) (k : ℕ) → IsForest above → k < length above → slice_index above (root_of above k) ≡ root_of above k
root_ends above k h l = climb_ends above (length above) k h l (omega arith)

pub root_own : (above : List ℕ) (k : ℕ) → slice_index above k ≡ k → root_of above k ≡ k
root_own above k e = climb_stays above (length above) k e

-- a place and the place above it have one root
root_up : (above : List ℕ) (k : ℕ) → IsForest above → k < length above → root_of above (slice_index above k) ≡ root_of above k
root_up above k h l = climb_up above (length above) k ∙ root_ends above k h l

-- what is the same along each step is the same along a way
along_way : (above : List ℕ) (f : ℕ → ℕ) → IsForest above → ((k : ℕ) → k < length above → f (slice_index above k) ≡ f k) → (n k : ℕ) → k < length above → f (climb above n k) ≡ f k
along_way above f h same zero k l = refl
along_way above f h same (suc n) k l =
    let up : slice_index above k ≤ k = h k l in
    along_way above f h same n (slice_index above k) (omega arith) ∙ same k l

-- what gives each root itself, and each place what it gives the place above, gives the roots
one_root : (above : List ℕ) (f : ℕ → ℕ) → IsForest above → ((k : ℕ) → k < length above → slice_index above k ≡ k → f k ≡ k) → ((k : ℕ) → k < length above → f (slice_index above k) ≡ f k) → (k : ℕ) → k < length above → root_of above k ≡ f k
one_root above f h own same k l =
    let low : root_of above k ≤ k = root_le above k h l in
    sym (own (root_of above k) (omega arith) (root_ends above k h l)) ∙ along_way above f h same (length above) k l

pub length_roots : (above : List ℕ) → length (roots_of above) ≡ length above
length_roots above = length-map-range_with_len (root_of above) 0 (length above)

roots_at : (above : List ℕ) (k : ℕ) → k < length above → slice_index (roots_of above) k ≡ root_of above k
roots_at above k l = get_or-map-range_with_len (root_of above) 0 (length above) k k 0 l (zero-add k)

-- numbers that are the roots one by one are the roots
pub roots_are : (above labels : List ℕ) → length labels ≡ length above → ((k : ℕ) → k < length above → slice_index labels k ≡ root_of above k) → labels ≡ roots_of above
roots_are above labels size each =
    same_number_lists labels (roots_of above) (size ∙ sym (length_roots above)) (λ k l. let inside : k < length above = omega (arith, size) in each k inside ∙ sym (roots_at above k inside))

-- one place put under another that does not come after it
module _ (above : List ℕ) (place under : ℕ) (h : IsForest above) (inside : place < length above) (before : under ≤ place) where
  abbrev new : List ℕ
  new = set above place under

  size : length new ≡ length above
  size = length-set above place under

  at_place : slice_index new place ≡ under
  at_place = get_or-set_same above place under 0 inside

  elsewhere : (k : ℕ) → k ≢ place → slice_index new k ≡ slice_index above k
  elsewhere k other = get_or-set_other above place k under 0 other

  forest_put : IsForest new
  forest_put k l = elim (cases_eq k place) [
    | inl e ↦ omega (arith, ap (slice_index new) e, at_place)
    | inr other ↦ let within : k < length above = omega (arith, size) in omega (arith, elsewhere k other, h k within)
  ]

  -- the roots after it, where it is known what each root and the place itself are given
  put_gives : (f : ℕ → ℕ) → ((k : ℕ) → k < length above → slice_index new k ≡ k → f k ≡ k) → ((k : ℕ) → k < length above → f (slice_index above k) ≡ f k) → f under ≡ f place → (k : ℕ) → k < length above → root_of new k ≡ f k
  put_gives f own same here k l = one_root new f forest_put (λ j m. own j (omega (arith, size))) each k (omega (arith, size))
    where
      each : (j : ℕ) → j < length new → f (slice_index new j) ≡ f j
      each j m = elim (cases_eq j place) [
        | inl e ↦ ap (λ x. f (slice_index new x)) e ∙ ap f at_place ∙ here ∙ ap f (sym e)
        | inr other ↦ let within : j < length above = omega (arith, size) in ap f (elsewhere j other) ∙ same j within
      ]

  root_again : (k : ℕ) → k ≡ place → slice_index new k ≡ k → under ≡ place
  root_again k e own = sym at_place ∙ ap (slice_index new) (sym e) ∙ own ∙ e

  -- under one that has the same root
  roots_kept : root_of above under ≡ root_of above place → (under ≡ place → slice_index above place ≡ place) → roots_of new ≡ roots_of above
  roots_kept same stays =
      roots_are above (roots_of new) (length_roots new ∙ size) (λ k l. roots_at new k (omega (arith, size)) ∙ put_gives (root_of above) own (λ j m. root_up above j h m) same k l)
    where
      own : (k : ℕ) → k < length above → slice_index new k ≡ k → root_of above k ≡ k
      own k l e = elim (cases_eq k place) [
        | inl is ↦ root_own above k (ap (slice_index above) is ∙ stays (root_again k is e) ∙ sym is)
        | inr other ↦ root_own above k (sym (elsewhere k other) ∙ e)
      ]

  -- a root under a root
  roots_joined : slice_index above place ≡ place → slice_index above under ≡ under → roots_of new ≡ map (relabel place under) (roots_of above)
  roots_joined first second = same_number_lists (roots_of new) (map (relabel place under) (roots_of above)) (length_roots new ∙ size ∙ sym length_joined) each
    where
      length_joined : length (map (relabel place under) (roots_of above)) ≡ length above
      length_joined = length-map (roots_of above) (relabel place under) ∙ length_roots above

      at_root : (k : ℕ) → root_of above k ≡ place → relabel place under (root_of above k) ≡ under
      at_root k e = relabel_from place under (root_of above k) e

      own : (k : ℕ) → k < length above → slice_index new k ≡ k → relabel place under (root_of above k) ≡ k
      own k l e = elim (cases_eq k place) [
        | inl is ↦ at_root k (root_own above k (ap (slice_index above) is ∙ first ∙ sym is) ∙ is) ∙ root_again k is e ∙ sym is
        | inr other ↦
            let root : root_of above k ≡ k = root_own above k (sym (elsewhere k other) ∙ e) in
            relabel_other place under (root_of above k) (ne_eqb (root_of above k) place (λ is. other (sym root ∙ is))) ∙ root
      ]

      here : relabel place under (root_of above under) ≡ relabel place under (root_of above place)
      here = ap (relabel place under) (root_own above under second) ∙ relabel_to place under ∙ sym (at_root place (root_own above place first))

      each : (k : ℕ) → k < length (roots_of new) → slice_index (roots_of new) k ≡ slice_index (map (relabel place under) (roots_of above)) k
      each k l =
          let within : k < length above = omega (arith, length_roots new, size) in
          roots_at new k (omega (arith, size)) ∙ put_gives (λ j. relabel place under (root_of above j)) own (λ j m. ap (relabel place under) (root_up above j h m)) here k within
          ∙ sym (at_map (relabel place under) (relabel_zero place under before) (roots_of above) k ∙ ap (relabel place under) (roots_at above k within))

-- forests with the same roots
same_length : (some other : List ℕ) → roots_of some ≡ roots_of other → length some ≡ length other
same_length some other e = sym (length_roots some) ∙ ap length e ∙ length_roots other

same_root : (some other : List ℕ) (k : ℕ) → roots_of some ≡ roots_of other → k < length other → root_of some k ≡ root_of other k
same_root some other k e l = sym (roots_at some k (omega (arith, same_length some other e))) ∙ ap (λ labels. slice_index labels k) e ∙ roots_at other k l

-- a place put two steps higher
module _ (above : List ℕ) (k : ℕ) (h : IsForest above) (inside : k < length above) where
  abbrev up : ℕ
  up = slice_index above k

  abbrev higher : ℕ
  higher = slice_index above up

  up_le : up ≤ k
  up_le = h k inside

  up_inside : up < length above
  up_inside = omega (arith, up_le)

  pub higher_le : higher ≤ up
  higher_le = h up up_inside

  higher_before : higher ≤ k
  higher_before = omega (arith, higher_le, up_le)

  pub forest_halved : IsForest (set above k higher)
  forest_halved = forest_put above k higher h inside higher_before

  higher_root : root_of above higher ≡ root_of above k
  higher_root = root_up above up h up_inside ∙ root_up above k h inside

  pub roots_halved : roots_of (set above k higher) ≡ roots_of above
  roots_halved = roots_kept above k higher h inside higher_before higher_root (λ e. omega (arith, e, higher_le, up_le))

  pub root_halved : root_of (set above k higher) higher ≡ root_of above k
  root_halved = same_root (set above k higher) above higher roots_halved (omega (arith, higher_before)) ∙ higher_root

  -- where each place before it is right under its root, it is so too
  pub flat_next : ((j : ℕ) → j < k → slice_index above j ≡ root_of above j) → (j : ℕ) → j < k + 1 → slice_index (set above k higher) j ≡ root_of (set above k higher) j
  flat_next flat j l = elim (cases_eq j k) [
    | inl e ↦
        ap (slice_index (set above k higher)) e ∙ get_or-set_same above k higher 0 inside ∙ elim (cases_lt up k) [
          | inl less ↦ flat up less ∙ root_up above k h inside
          | inr more ↦ let own : up ≡ k = omega (arith, up_le) in ap (slice_index above) own ∙ own ∙ sym (root_own above k own)
        ] ∙ sym (kept k inside) ∙ ap (root_of (set above k higher)) (sym e)
    | inr other ↦
        let less : j < k = omega arith in
        get_or-set_other above k j higher 0 other ∙ flat j less ∙ sym (kept j (omega arith))
  ]
    where
      kept : (i : ℕ) → i < length above → root_of (set above k higher) i ≡ root_of above i
      kept i m = same_root (set above k higher) above i roots_halved m

-- at first each place is a root
own_at : (n k : ℕ) → k < n → slice_index (range_with_len 0 n) k ≡ k
own_at n k l = get_or-range_with_len 0 n k 0 l ∙ zero-add k

pub forest_none : (n : ℕ) → IsForest (range_with_len 0 n)
forest_none n k l = let e : slice_index (range_with_len 0 n) k ≡ k = own_at n k (omega (arith, length-range_with_len 0 n)) in omega arith

pub roots_none : (n : ℕ) → roots_of (range_with_len 0 n) ≡ range_with_len 0 n
roots_none n = sym (roots_are (range_with_len 0 n) (range_with_len 0 n) refl (λ k l. let own : slice_index (range_with_len 0 n) k ≡ k = own_at n k (omega (arith, length-range_with_len 0 n)) in own ∙ sym (root_own (range_with_len 0 n) k own)))

-- the later of two roots put under the earlier, where ways were made shorter before
module _ (old middle above : List ℕ) (i j x y : ℕ) (h : IsForest above) (first : i < length old) (second : j < length old) (same : roots_of middle ≡ roots_of old) (again : roots_of above ≡ roots_of middle) (ex : x ≡ root_of old i) (ey : y ≡ root_of middle j) where
  all : roots_of above ≡ roots_of old
  all = again ∙ same

  as_long : length above ≡ length old
  as_long = same_length above old all

  an_end : (k r : ℕ) → k < length old → r ≡ root_of above k → (r < length above) × (slice_index above r ≡ r)
  an_end k r l e =
      let within : k < length above = omega (arith, as_long) in
      let low : root_of above k ≤ k = root_le above k h within in
      (omega arith, ap (slice_index above) e ∙ root_ends above k h within ∙ sym e)

  own_x : (x < length above) × (slice_index above x ≡ x)
  own_x = an_end i x first (ex ∙ sym (same_root above old i all first))

  own_y : (y < length above) × (slice_index above y ≡ y)
  own_y = an_end j y second (ey ∙ sym (same_root above middle j again (omega (arith, same_length middle old same))))

  either : (P : ℕ → Type 0) → P x → P y → P (max x y) × P (min x y)
  either P px py = elim (cases_lt x y) [
    | inl less ↦
        let e : y ≡ max x y = omega arith in
        let f : x ≡ min x y = omega arith in
        (subst P e py, subst P f px)
    | inr more ↦
        let e : x ≡ max x y = omega arith in
        let f : y ≡ min x y = omega arith in
        (subst P e px, subst P f py)
  ]

  ends : ((max x y < length above) × (slice_index above (max x y) ≡ max x y)) × ((min x y < length above) × (slice_index above (min x y) ≡ min x y))
  ends = either (λ r. (r < length above) × (slice_index above r ≡ r)) own_x own_y

  below : min x y ≤ max x y
  below = omega arith

  pub inside_linked : max x y < length above
  inside_linked = ends.0.0

  pub forest_linked : IsForest (set above (max x y) (min x y))
  forest_linked = forest_put above (max x y) (min x y) h ends.0.0 below

  pub roots_linked : roots_of (set above (max x y) (min x y)) ≡ with_joined (roots_of old) (root_of old i) (root_of old j)
  roots_linked =
      let ey' : y ≡ root_of old j = ey ∙ same_root middle old j same second in
      roots_joined above (max x y) (min x y) h ends.0.0 below ends.0.1 ends.1.1 ∙ ap (λ labels. with_joined labels x y) all ∙ ap (λ r. with_joined (roots_of old) r y) ex ∙ ap (with_joined (roots_of old) (root_of old i)) ey'

-- the names of one tie more are labelled by their roots
pub labelled_link : (names : List (List ℕ)) (ties : Ties) (old new : List ℕ) (p q : List ℕ) (i j : ℕ) → AreLabelled names ties (roots_of old) → has_name names p ≡ true → has_name names q ≡ true → i ≡ place_of names p → j ≡ place_of names q
    → roots_of new ≡ with_joined (roots_of old) (root_of old i) (root_of old j) → AreLabelled names (ties ++ (p, q) ∷ []) (roots_of new)
labelled_link names ties old new p q i j h hp hq ei ej joined =
    let pin : place_of names p < length names = place_in names p hp in
    let qin : place_of names q < length names = place_in names q hq in
    let x : root_of old i ≡ slice_index (roots_of old) (place_of names p) = ap (root_of old) ei ∙ sym (roots_at old (place_of names p) (omega (arith, h.size, length_roots old))) in
    let y : root_of old j ≡ slice_index (roots_of old) (place_of names q) = ap (root_of old) ej ∙ sym (roots_at old (place_of names q) (omega (arith, h.size, length_roots old))) in
    let same : with_joined (roots_of old) (slice_index (roots_of old) (place_of names p)) (slice_index (roots_of old) (place_of names q)) ≡ roots_of new =
    sym (joined ∙ ap (λ r. with_joined (roots_of old) r (root_of old j)) x ∙ ap (with_joined (roots_of old) (slice_index (roots_of old) (place_of names p))) y) in
    subst (AreLabelled names (ties ++ (p, q) ∷ [])) same (labelled_tie names ties (roots_of old) p q h pin qin)
