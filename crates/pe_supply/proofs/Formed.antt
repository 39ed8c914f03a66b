-- The supplies that a plan has are well formed.
use Rattle.std.proofs.Common.{◌≡◌, inl, inr, ℕ, zero, suc, ◌+◌, ◌-◌, ◌<◌, ◌≤◌, Bool, true, false, cond, List, [], ◌∷◌, ◌++◌, length, map, slice_index, get_or, Option, Some, None, refl, ap, sym, ◌∙◌, subst, arith, length-append, zero-add}
use Rattle.std.specs.Prelude.{◌==◌, nat_lt, filter, find, count_by, Contains, unwrap_or}
use Rattle.std.specs.List.{All, AllZip, zip, range_with_len}
use Rattle.std.specs.Option.{option_map, ForSome}
use Rattle.std.proofs.lemmas.Bool.{cases_lt, ltb-false, le-ltb, or_parts, cases_Bool, ne_eqb, eqb-true, eq-eqb, not-false}
use Rattle.std.proofs.lemmas.List.{length-map, get_or-append_right, get_or_default}
use Rattle.std.proofs.lemmas.List.Elements.{All-map, All-cons, All-head, All-same, Contains-get_or}
use Rattle.std.proofs.lemmas.List.Sums.{sum_by-cons}
use Rattle.std.proofs.lemmas.List.FromFn.{get_or-range_with_len, length-range_with_len}
use Rattle.pe_bool_expr.specs.declared.expr.Expr.{Expr}
use Rattle.pe_bool_expr.specs.declared.style.Style.TheVariants.{Upf}
use Rattle.pe_bool_expr.specs.Reading.{IsFunction}
use Rattle.pe_supply.specs.declared.plan.Plan.{Plan}
use Rattle.pe_supply.specs.declared.plan.RowText.{RowText}
use Rattle.pe_supply.specs.declared.plan.SwitchText.{SwitchText}
use Rattle.pe_supply.specs.declared.plan.TableText.{TableText}
use Rattle.pe_supply.specs.declared.plan.Use.{Use}
use Rattle.pe_supply.specs.declared.supplies.Level.TheVariants.{Any}
use Rattle.pe_supply.specs.declared.supplies.Row.{Row}
use Rattle.pe_supply.specs.declared.supplies.Supplies.{Supplies}
use Rattle.pe_supply.specs.declared.supplies.Switch.{Switch}
use Rattle.pe_supply.specs.Building.{controls_of, AreNamed, IsSwitchOf, AreSupplies}
use Rattle.pe_supply.specs.Drivers.{drives, edge_of, edges_of, is_driven_twice, first_driven_twice, is_root, Reaches, IsLooped}
use Rattle.pe_supply.specs.Numbers.{numbers_in, number_of, supply_count, supplies_in, first_name}
use Rattle.pe_supply.specs.Tables.{columns, cells_of, level_of, is_unlike, first_unlike, table_in, row_in, set_in}
use Rattle.pe_supply.specs.Whole.{IsWhole, IsUsed, IsTableUsed}
use Rattle.pe_supply.specs.WellFormed.{count_of, driven, driver, input_of, is_fed, place, supplies_named, IsSmall, IsSwitch, IsWellFormed}
use Rattle.pe_supply.proofs.Driven.{all_once, all_below, all_reached, all_size}
use Rattle.pe_supply.proofs.Looping.{AreOnce, outputs_of, repeats}
use Rattle.pe_supply.proofs.Making.{find_fails, made_below, used_supply, outputs_below, inputs_below}
use Rattle.pe_supply.proofs.Numbered.{each_below, each_named}
use Rattle.pe_supply.proofs.Places.{place_is}

-- no supply is driven twice
no_name : (names : List (List ℕ × ℕ)) (o : Option ℕ) → option_map (first_name names) o ≡ None → o ≡ None
no_name names None e = refl
no_name names (Some i) e = cc

count_none : (edges : List (ℕ × ℕ)) (count i : ℕ) → All (λ e. e.0 < count) edges → count ≤ i → count_by (drives i) edges ≡ 0
count_none [] count i outs l = refl
count_none (e ∷ es) count i outs l =
    let other : (e.0 == i) ≡ false = ne_eqb e.0 i (λ same. absurd (omega (arith, outs 0 (0, 0) (omega arith), same))) in
    let more : count_by (drives i) es ≡ 0 = count_none es count i (λ k d m. outs (suc k) d (omega arith)) l in
    let here : ◌≡◌ {A = ℕ} (cond (e.0 == i) 1 0) 0 = rw other refl in
    omega (arith, sum_by-cons (λ x. cond (drives i x) 1 0) e es, more, here)

pub once_of : (names : List (List ℕ × ℕ)) (edges : List (ℕ × ℕ)) → All (λ e. e.0 < supply_count names) edges → first_driven_twice names edges ≡ None → AreOnce edges
once_of names edges outs e i = elim (cases_lt i (supply_count names)) [
  | inl l ↦
      let inside : i < length (range_with_len 0 (supply_count names)) = omega (arith, length-range_with_len 0 (supply_count names)) in
      find_fails (is_driven_twice edges) (supplies_in names) i (no_name names (find (is_driven_twice edges) (supplies_in names)) e) (i, inside, get_or-range_with_len 0 (supply_count names) i i l ∙ zero-add i)
  | inr l ↦ le-ltb 1 (count_by (drives i) edges) (omega (arith, count_none edges (supply_count names) i outs l))
]

-- the supplies of switches
abbrev edge_in : Switch → ℕ × ℕ
edge_in w = (w.output, w.input)

zip_edges : (names : List (List ℕ × ℕ)) (texts : List SwitchText) (ws : List Switch) → AllZip (IsSwitchOf names) texts ws → map edge_in ws ≡ edges_of names texts
zip_edges names [] [] h = refl
zip_edges names [] (w ∷ ws) h = absurd h
zip_edges names (t ∷ ts) [] h = absurd h
zip_edges names (t ∷ ts) (w ∷ ws) h = ap (λ e. e ∷ map edge_in ws) h.0.edge ∙ ap (λ es. edge_of names t ∷ es) (zip_edges names ts ws h.1)

outputs_in : (ws : List Switch) → map (λ w. w.output) ws ≡ outputs_of (map edge_in ws)
outputs_in [] = refl
outputs_in (w ∷ ws) = ap (λ xs. w.output ∷ xs) (outputs_in ws)

input_at : (ws : List Switch) (k : ℕ) (d : ℕ × ℕ) → k < length ws → slice_index (map (λ w. w.input) ws) k ≡ (get_or (map edge_in ws) k d).1
input_at [] k d l = absurd (omega arith)
input_at (w ∷ ws) zero d l = refl
input_at (w ∷ ws) (suc k) d l = input_at ws k d (omega arith)

output_at : (ws : List Switch) (k : ℕ) (d : ℕ × ℕ) → k < length ws → slice_index (map (λ w. w.output) ws) k ≡ (get_or (map edge_in ws) k d).0
output_at [] k d l = absurd (omega arith)
output_at (w ∷ ws) zero d l = refl
output_at (w ∷ ws) (suc k) d l = output_at ws k d (omega arith)

-- functions of at most 10 names
zip_small : (names : List (List ℕ)) (texts : List (List ℕ)) (es : List Expr) → AllZip (IsFunction Upf names) texts es → All IsSmall es
zip_small names [] [] h = λ k d l. absurd (omega arith)
zip_small names [] (e ∷ es) h = absurd h
zip_small names (t ∷ ts) [] h = absurd h
zip_small names (t ∷ ts) (e ∷ es) h = All-cons IsSmall e es h.0.2.few (zip_small names ts es h.1)

zip_switches : (names : List (List ℕ × ℕ)) (texts : List SwitchText) (ws : List Switch) → AllZip (IsSwitchOf names) texts ws → All IsSwitch ws
zip_switches names [] [] h = λ k d l. absurd (omega arith)
zip_switches names [] (w ∷ ws) h = absurd h
zip_switches names (t ∷ ts) [] h = absurd h
zip_switches names (t ∷ ts) (w ∷ ws) h = All-cons IsSwitch w ws (record { on = h.0.on.2.few; off = zip_small (controls_of t) t.off w.off h.0.off }) (zip_switches names ts ws h.1)

-- a row that is as long as the table has as many levels
zip_length : {A B : Type 0} (xs : List A) (ys : List B) → length ys ≡ length xs → length (zip xs ys) ≡ length xs
zip_length [] ys e = refl
zip_length (x ∷ xs) [] e = absurd (omega arith)
zip_length (x ∷ xs) (y ∷ ys) e = let more : length ys ≡ length xs = omega arith in ap suc (zip_length xs ys more)

no_row : (o : Option RowText) → option_map (λ row. row.name) o ≡ None → o ≡ None
no_row None e = refl
no_row (Some row) e = cc

is_long : (width : ℕ) (rows : List RowText) (k : ℕ) (d : RowText) → first_unlike width rows ≡ None → k < length rows → length (get_or rows k d).words ≡ width
is_long width rows k d e l =
    let fails = find_fails (is_unlike width) rows (get_or rows k d) (no_row (find (is_unlike width) rows) e) (Contains-get_or rows k d l) in
    eqb-true (length (get_or rows k d).words) width (not-false (length (get_or rows k d).words == width) fails)

place_there : (xs : List ℕ) (k i : ℕ) → k < length xs → slice_index xs k ≡ i → place xs i < length xs
place_there [] k i l e = absurd (omega arith)
place_there (x ∷ xs) zero i l e = let same : (x == i) ≡ true = eq-eqb x i e in rw same (omega arith)
place_there (x ∷ xs) (suc k) i l e = by (x == i) (place_there xs k i (omega arith) e)
  where
    by : (b : Bool) → place xs i < length xs → cond b 0 (1 + place xs i) < suc (length xs)
    by true h = omega arith
    by false h = omega arith

-- supplies whose switches are these, each driven once, none of itself
module _ (s : Supplies) (count : ℕ) (roots : s.roots ≡ filter (is_root (map edge_in s.switches)) (range_with_len 0 count)) (once : AreOnce (map edge_in s.switches))
    (outs : All (λ e. e.0 < count) (map edge_in s.switches)) (ins : All (λ e. e.1 < count) (map edge_in s.switches)) (apart : (i : ℕ) → IsLooped (map edge_in s.switches) i → ⊥) where
  abbrev edges : List (ℕ × ℕ)
  edges = map edge_in s.switches

  abbrev every : List ℕ
  every = filter (is_root edges) (range_with_len 0 count) ++ outputs_of edges

  driven_is : driven s ≡ every
  driven_is = ap (λ xs. xs ++ map (λ w. w.output) s.switches) roots ∙ ap (λ xs. filter (is_root edges) (range_with_len 0 count) ++ xs) (outputs_in s.switches)

  driven_length : length (driven s) ≡ count_of s
  driven_length = simp (length-append, length-map)

  count_is : count_of s ≡ count
  count_is = sym driven_length ∙ ap length driven_is ∙ all_size edges count once outs

  within : (k : ℕ) → k < count_of s → k < length every
  within k l = omega (arith, ap length driven_is, driven_length)

  below : (k : ℕ) → k < count_of s → slice_index (driven s) k < count_of s
  below k l = omega (arith, ap (λ xs. slice_index xs k) driven_is, all_below edges count once outs k (within k l), count_is)

  inputs : (k : ℕ) → k < length s.switches → input_of s k < count_of s
  inputs k l =
      let inside : k < length edges = omega (arith, length-map s.switches edge_in) in
      omega (arith, input_at s.switches k (0, 0) l, ins k (0, 0) inside, count_is)

  once_each : (k : ℕ) → k < count_of s → driver s (slice_index (driven s) k) ≡ k
  once_each k l = ap (λ xs. place xs (slice_index xs k)) driven_is ∙ all_once edges count once outs k (within k l)

  reached : (i : ℕ) → i < count_of s → driver s i < count_of s
  reached i l =
      let m : i < count = omega (arith, count_is) in
      omega (arith, ap (λ xs. place xs i) driven_is, all_reached edges count once outs i m, ap length driven_is, driven_length)

  -- where no root is reached, the way goes on
  unfed : (n i : ℕ) → i < count_of s → is_fed s n i ≡ false → (j : ℕ) × Reaches edges n i j
  unfed zero i l e = (i, refl)
  unfed (suc n) i l e =
      let parts = or_parts (nat_lt (driver s i) (length s.roots)) (is_fed s n (input_of s (driver s i - length s.roots))) e in
      let over : length s.roots ≤ driver s i = ltb-false (driver s i) (length s.roots) parts.0 in
      let m : driver s i - length s.roots < length s.switches = omega (arith, reached i l) in
      let inside : driver s i - length s.roots < length edges = omega (arith, length-map s.switches edge_in) in
      let there : driver s i < length (driven s) = omega (arith, reached i l, driven_length) in
      let here : slice_index (driven s) (driver s i) ≡ i = place_is (driven s) i there in
      let at : slice_index (driven s) (driver s i) ≡ slice_index (map (λ w. w.output) s.switches) (driver s i - length s.roots) = get_or-append_right s.roots (map (λ w. w.output) s.switches) (length s.roots) (driver s i) 0 refl over in
      let out : (get_or edges (driver s i - length s.roots) (0, 0)).0 ≡ i = sym (output_at s.switches (driver s i - length s.roots) (0, 0) m) ∙ sym at ∙ here in
      let inp : (get_or edges (driver s i - length s.roots) (0, 0)).1 ≡ input_of s (driver s i - length s.roots) = sym (input_at s.switches (driver s i - length s.roots) (0, 0) m) in
      let pair : get_or edges (driver s i - length s.roots) (0, 0) ≡ (i, input_of s (driver s i - length s.roots)) = same_pair (get_or edges (driver s i - length s.roots) (0, 0)) i (input_of s (driver s i - length s.roots)) out inp in
      let edge : Contains edges (i, input_of s (driver s i - length s.roots)) = subst (λ v. Contains edges v) pair (Contains-get_or edges (driver s i - length s.roots) (0, 0) inside) in
      let more = unfed n (input_of s (driver s i - length s.roots)) (inputs (driver s i - length s.roots) m) parts.1 in
      (more.0, (input_of s (driver s i - length s.roots), edge, more.1))
    where
      same_pair : (e : ℕ × ℕ) (a b : ℕ) → e.0 ≡ a → e.1 ≡ b → e ≡ (a, b)
      same_pair e a b p q = ap (λ x. (x, e.1)) p ∙ ap (λ y. (a, y)) q

  fed : (i : ℕ) → i < count_of s → is_fed s (count_of s) i ≡ true
  fed i l = elim (cases_Bool (is_fed s (count_of s) i)) [
    | inl well ↦ well
    | inr unwell ↦
        let way = unfed (count_of s) i l unwell in
        let m : i < count = omega (arith, count_is) in
        let r = repeats edges count once ins (count_of s) i way.0 m (omega (arith, count_is)) way.1 in
        let more : r.second - r.first ≡ suc (r.second - r.first - 1) = omega (arith, r.order) in
        absurd (apart r.at (record { behind = r.second - r.first - 1; back = subst (λ x. Reaches edges x r.at r.at) more r.round }))
  ]

-- a supply that may be written
abbrev IsSetBelow : ℕ → List ℕ × Option ℕ × Option ℕ → Type 0
IsSetBelow count set = ForSome set.1 (λ i. i < count) × ForSome set.2 (λ i. i < count)

some_number : (f : List ℕ → ℕ) (count : ℕ) (uses : List Use) (o : Option (List ℕ)) → ((n : List ℕ) → IsUsed uses n → f n < count) → ForSome o (IsUsed uses) → ForSome (option_map f o) (λ i. i < count)
some_number f count uses None h k = λ i e. cc
some_number f count uses (Some n) h k = λ i e. let same : f n ≡ i = cc in omega (arith, h n (k n refl), same)

columns_used : (uses : List Use) (tables : List TableText) → All (IsTableUsed uses) tables → All (IsUsed uses) (columns tables)
columns_used uses [] h = λ k d l. absurd (omega arith)
columns_used uses (t ∷ ts) h = All-head (IsTableUsed uses) t ts h

pub formed : (p : Plan) (s : Supplies) → IsWhole p → AreSupplies p s → IsWellFormed s
formed p s w h =
    let named : AreNamed p s.names = h.few.rows.states.long.table.rows.functions.fed.on_nets.driven.named in
    let es : map edge_in s.switches ≡ edges_of s.names p.switches = zip_edges s.names p.switches s.switches h.switches in
    let outs : All (λ e. e.0 < supply_count s.names) (map edge_in s.switches) = All-same (λ e. e.0 < supply_count s.names) (map edge_in s.switches) (edges_of s.names p.switches) es (outputs_below p s.names w named) in
    let ins : All (λ e. e.1 < supply_count s.names) (map edge_in s.switches) = All-same (λ e. e.1 < supply_count s.names) (map edge_in s.switches) (edges_of s.names p.switches) es (inputs_below p s.names w named) in
    let once : AreOnce (map edge_in s.switches) = subst AreOnce (sym es) (once_of s.names (edges_of s.names p.switches) (outputs_below p s.names w named) h.few.rows.states.long.table.rows.functions.fed.on_nets.driven.once) in
    let apart : (i : ℕ) → IsLooped (map edge_in s.switches) i → ⊥ = λ i x. h.few.rows.states.long.table.rows.functions.fed.apart i (subst (λ es. IsLooped es i) es x) in
    let roots : s.roots ≡ filter (is_root (map edge_in s.switches)) (range_with_len 0 (supply_count s.names)) = h.roots ∙ ap (λ es. filter (is_root es) (range_with_len 0 (supply_count s.names))) (sym es) in
    let count : count_of s ≡ supply_count s.names = count_is s (supply_count s.names) roots once outs ins apart in
    let made : (n : List ℕ) → IsUsed p.uses n → number_of s.names n < count_of s = λ n u. omega (arith, made_below p s.names named n (used_supply p n named.made u), count) in
    record {
      few = omega (arith, count, h.few.few);
      few_rows = omega (arith, ap length h.rows, length-map p.rows (row_in s.names p.states (table_in s.names p.tables)), h.few.rows.few);
      below = below s (supply_count s.names) roots once outs ins apart;
      inputs = inputs s (supply_count s.names) roots once outs ins apart;
      switches = zip_switches s.names p.switches s.switches h.switches;
      once = once_each s (supply_count s.names) roots once outs ins apart;
      reached = reached s (supply_count s.names) roots once outs ins apart;
      fed = fed s (supply_count s.names) roots once outs ins apart;
      names = λ k d l.
          let inside : k < length s.names = omega (arith, length-map s.names (λ n. n.1)) in
          omega (arith, get_or_default (numbers_in s.names) k d 0 l, each_below s.names k inside, count);
      named = λ i l.
          let m : i < supply_count s.names = omega (arith, count) in
          let r = each_named p.names p.ties s.names named.numbered i m in
          let inside : r.0 < length (supplies_named s) = omega (arith, r.1, length-map s.names (λ n. n.1)) in
          omega (arith, place_there (supplies_named s) r.0 i inside r.2, length-map s.names (λ n. n.1));
      sets = All-same (IsSetBelow (count_of s)) s.sets (map (set_in s.names) p.sets) h.sets (All-map (IsSetBelow (count_of s)) (set_in s.names) p.sets (λ k d l.
          let used = w.within.sets k d l in
          (some_number (λ n. number_of s.names n) (count_of s) p.uses (get_or p.sets k d).power_net made used.0, some_number (λ n. number_of s.names n) (count_of s) p.uses (get_or p.sets k d).ground_net made used.1)));
      table =
          let P : ℕ → Type 0 = λ i. i < count_of s in
          All-same P s.table (table_in s.names p.tables) h.table (All-map P (number_of s.names) (columns p.tables) (λ k d l. made (get_or (columns p.tables) k d) (columns_used p.uses p.tables w.within.tables k d l)));
      rows =
          let P : Row → Type 0 = λ row. length row.levels ≡ length s.table in
          let wide : length s.table ≡ length (columns p.tables) = ap length h.table ∙ length-map (columns p.tables) (number_of s.names) in
          All-same P s.rows (map (row_in s.names p.states (table_in s.names p.tables)) p.rows) h.rows (All-map P (row_in s.names p.states (table_in s.names p.tables)) p.rows (λ k d l.
          let words : length (get_or p.rows k d).words ≡ length (table_in s.names p.tables) = is_long (length (columns p.tables)) p.rows k d h.few.rows.states.long.long l ∙ sym (length-map (columns p.tables) (number_of s.names)) in
          length-map (cells_of (table_in s.names p.tables) (get_or p.rows k d)) (λ cell. unwrap_or (level_of s.names p.states cell.0 cell.1) Any) ∙ zip_length (table_in s.names p.tables) (get_or p.rows k d).words words ∙ ap length (sym h.table)));
    }
