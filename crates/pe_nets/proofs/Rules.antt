-- Rules that give nets their values, one after another: each reads nets that have theirs already. Then exactly one map
-- meets them all.
use Rattle.std.proofs.Common.{◌≡◌, ℕ, ◌<◌, Bool, true, false, not, cond, ◌&&◌, ◌||◌, List, [], ◌∷◌, map, length, refl, sym, ap, ◌∙◌, arith, get_or-set_other, get_or-set_same, length-set}
use Rattle.std.specs.Prelude.{slice_set}
use Rattle.std.specs.Str.{bytes_eq}
use Rattle.pe_base.specs.declared.value.Val.{Val}
use Rattle.pe_base.specs.declared.value.Val.TheVariants.{Corrupt}
use Rattle.pe_base.specs.Names.{has_name, are_distinct, all_among, place_of}
use Rattle.pe_nets.specs.Nets.{name_at, value_in}
use Rattle.pe_nets.proofs.Names.{and_left, and_right, or_left_false, or_right_false, not_true, same_name, name_same, among_at, place_below, place_past, name_at_place}

-- a net, the nets that are read for it, and what it gets
pub record Rule : Type 0 where
  pub target : List ℕ
  pub reads : List (List ℕ)
  pub gives : (List ℕ → Val) → Val

-- what it gets depends on what is read alone
pub record IsFair (r : Rule) : Type 0 where
  pub fair : (f g : List ℕ → Val) → ((n : List ℕ) → has_name r.reads n ≡ true → f n ≡ g n) → r.gives f ≡ r.gives g

abbrev pub AreFair : List Rule → Type 0
AreFair [] = Unit {0}
AreFair (r ∷ rs) = IsFair r × AreFair rs

abbrev pub targets_of : List Rule → List (List ℕ)
targets_of rs = map (λ r. r.target) rs

-- each reads known nets and targets of those before it
abbrev pub are_ordered : List (List ℕ) → List Rule → Bool
are_ordered known [] = true
are_ordered known (r ∷ rs) = all_among known r.reads && are_ordered (r.target ∷ known) rs

-- values meet the rules
abbrev pub Meets : (List ℕ → Val) → List Rule → Type 0
Meets f [] = Unit {0}
Meets f (r ∷ rs) = (f r.target ≡ r.gives f) × Meets f rs

-- a net gets another value
abbrev pub update : (List ℕ → Val) → List ℕ → Val → List ℕ → Val
update f t v n = cond (bytes_eq t n) v (f n)

-- all targets get theirs, one after another
abbrev pub run : (List ℕ → Val) → List Rule → List ℕ → Val
run f [] = f
run f (r ∷ rs) = run (update f r.target (r.gives f)) rs

-- what is no target keeps its value
pub untouched : (f : List ℕ → Val) (rs : List Rule) (n : List ℕ) → has_name (targets_of rs) n ≡ false → run f rs n ≡ f n
untouched f [] n h = refl
untouched f (r ∷ rs) n h =
    untouched (update f r.target (r.gives f)) rs n (or_right_false (bytes_eq r.target n) (has_name (targets_of rs) n) h)
    ∙ ap (λ b. cond b (r.gives f) (f n)) (or_left_false (bytes_eq r.target n) (has_name (targets_of rs) n) h)

-- no known net is a target
AreApart : List (List ℕ) → List Rule → Type 0
AreApart known rs = (n : List ℕ) → has_name known n ≡ true → has_name (targets_of rs) n ≡ false

apart_more : (known : List (List ℕ)) (r : Rule) (rs : List Rule) → ((n : List ℕ) → has_name known n ≡ true → has_name (targets_of (r ∷ rs)) n ≡ false) → has_name (targets_of rs) r.target ≡ false → (n : List ℕ) → has_name (r.target ∷ known) n ≡ true → has_name (targets_of rs) n ≡ false
apart_more known r rs a d n h = at_head (bytes_eq r.target n) refl
  where
    at_head : (b : Bool) → bytes_eq r.target n ≡ b → has_name (targets_of rs) n ≡ false
    at_head true k = ap (has_name (targets_of rs)) (sym (same_name r.target n k)) ∙ d
    at_head false k = or_right_false (bytes_eq r.target n) (has_name (targets_of rs) n) (a n (let z : (bytes_eq r.target n || has_name known n) ≡ true = h in rw k at z))

-- where each rule reads what has its value already, the values in the end meet all rules
pub run_meets : (known : List (List ℕ)) (f : List ℕ → Val) (rs : List Rule) → AreFair rs → are_ordered known rs ≡ true → are_distinct (targets_of rs) ≡ true → ((n : List ℕ) → has_name known n ≡ true → has_name (targets_of rs) n ≡ false) → Meets (run f rs) rs
run_meets known f [] fair o d a = tt
run_meets known f (r ∷ rs) fair o d a =
    let new : has_name (targets_of rs) r.target ≡ false = not_true (has_name (targets_of rs) r.target) (and_left (not (has_name (targets_of rs) r.target)) (are_distinct (targets_of rs)) d) in
    let f' : List ℕ → Val = update f r.target (r.gives f) in
    let reads : all_among known r.reads ≡ true = and_left (all_among known r.reads) (are_ordered (r.target ∷ known) rs) o in (
      untouched f' rs r.target new ∙ ap (λ b. cond b (r.gives f) (f r.target)) (name_same r.target r.target refl)
          ∙ fair.0.fair f (run f (r ∷ rs)) (λ n h. sym (untouched f (r ∷ rs) n (a n (among_at known r.reads n reads h)))),
      run_meets (r.target ∷ known) f' rs fair.1 (and_right (all_among known r.reads) (are_ordered (r.target ∷ known) rs) o) (and_right (not (has_name (targets_of rs) r.target)) (are_distinct (targets_of rs)) d) (apart_more known r rs a new),
    )

-- and values that meet them and agree on the known nets agree on all targets
pub meets_one : (known : List (List ℕ)) (f g : List ℕ → Val) (rs : List Rule) → AreFair rs → are_ordered known rs ≡ true → Meets f rs → Meets g rs → ((n : List ℕ) → has_name known n ≡ true → f n ≡ g n) → (n : List ℕ) → has_name (targets_of rs) n ≡ true → f n ≡ g n
meets_one known f g [] fair o p q a n h = absurd (let x : false ≡ true = h in cc)
meets_one known f g (r ∷ rs) fair o p q a n h =
    at_head (bytes_eq r.target n) refl (meets_one (r.target ∷ known) f g rs fair.1 (and_right (all_among known r.reads) (are_ordered (r.target ∷ known) rs) o) p.1 q.1 more n)
  where
    reads : all_among known r.reads ≡ true
    reads = and_left (all_among known r.reads) (are_ordered (r.target ∷ known) rs) o

    here : f r.target ≡ g r.target
    here = p.0 ∙ fair.0.fair f g (λ m k. a m (among_at known r.reads m reads k)) ∙ sym q.0

    more : (m : List ℕ) → has_name (r.target ∷ known) m ≡ true → f m ≡ g m
    more m k = at_new (bytes_eq r.target m) refl
      where
        at_new : (b : Bool) → bytes_eq r.target m ≡ b → f m ≡ g m
        at_new true e = let z : r.target ≡ m = same_name r.target m e in ap f (sym z) ∙ here ∙ ap g z
        at_new false e = a m (let z : (bytes_eq r.target m || has_name known m) ≡ true = k in rw e at z)

    at_head : (b : Bool) → bytes_eq r.target n ≡ b → (has_name (targets_of rs) n ≡ true → f n ≡ g n) → f n ≡ g n
    at_head true e later = let z : r.target ≡ n = same_name r.target n e in ap f (sym z) ∙ here ∙ ap g z
    at_head false e later = later (let z : (bytes_eq r.target n || has_name (targets_of rs) n) ≡ true = h in rw e at z)

-- rules do the same to values that agree
pub run_same : (f g : List ℕ → Val) (rs : List Rule) → AreFair rs → ((n : List ℕ) → f n ≡ g n) → (n : List ℕ) → run f rs n ≡ run g rs n
run_same f g [] fair a n = a n
run_same f g (r ∷ rs) fair a n =
    run_same (update f r.target (r.gives f)) (update g r.target (r.gives g)) rs fair.1
    (λ m. ap (λ v. cond (bytes_eq r.target m) v (f m)) (fair.0.fair f g (λ k h. a k)) ∙ ap (λ v. cond (bytes_eq r.target m) (r.gives g) v) (a m)) n

-- the same on a map
abbrev pub run_map : List (List ℕ) → List Val → List Rule → List Val
run_map nets values [] = values
run_map nets values (r ∷ rs) = run_map nets (slice_set values (place_of nets r.target) (r.gives (value_in nets values))) rs

-- a write of a net's value
pub write_is : (nets : List (List ℕ)) (values : List Val) (t : List ℕ) (v : Val) (n : List ℕ) → length values ≡ length nets → has_name nets t ≡ true → value_in nets (slice_set values (place_of nets t) v) n ≡ update (value_in nets values) t v n
write_is nets values t v n l h = at_name (bytes_eq t n) refl
  where
    inside : place_of nets t < length values
    inside = omega (arith, place_below nets t h, l)

    at_name : (b : Bool) → bytes_eq t n ≡ b → value_in nets (slice_set values (place_of nets t) v) n ≡ cond (bytes_eq t n) v (value_in nets values n)
    at_name true e =
        ap (λ m. value_in nets (slice_set values (place_of nets t) v) m) (sym (same_name t n e))
        ∙ get_or-set_same values (place_of nets t) v Corrupt inside
        ∙ sym (ap (λ b. cond b v (value_in nets values n)) e)
    at_name false e =
        get_or-set_other values (place_of nets t) (place_of nets n) v Corrupt (λ p. apart (has_name nets n) refl p)
        ∙ sym (ap (λ b. cond b v (value_in nets values n)) e)
      where
        apart : (b : Bool) → has_name nets n ≡ b → place_of nets n ≡ place_of nets t → ⊥
        apart true k p =
            let z : t ≡ n = sym (name_at_place nets t h) ∙ ap (name_at nets) (sym p) ∙ name_at_place nets n k in
            let y : true ≡ false = sym (name_same t n z) ∙ e in cc
        apart false k p = absurd (omega (arith, place_past nets n k, place_below nets t h))

pub length-run_map : (nets : List (List ℕ)) (values : List Val) (rs : List Rule) → length (run_map nets values rs) ≡ length values
length-run_map nets values [] = refl
length-run_map nets values (r ∷ rs) = length-run_map nets (slice_set values (place_of nets r.target) (r.gives (value_in nets values))) rs ∙ length-set values (place_of nets r.target) (r.gives (value_in nets values))

pub run_map_is : (nets : List (List ℕ)) (values : List Val) (rs : List Rule) → AreFair rs → length values ≡ length nets → all_among nets (targets_of rs) ≡ true → (n : List ℕ) → value_in nets (run_map nets values rs) n ≡ run (value_in nets values) rs n
run_map_is nets values [] fair l h n = refl
run_map_is nets values (r ∷ rs) fair l h n =
    let v = r.gives (value_in nets values) in
    let there = and_left (has_name nets r.target) (all_among nets (targets_of rs)) h in
    run_map_is nets (slice_set values (place_of nets r.target) v) rs fair.1 (length-set values (place_of nets r.target) v ∙ l) (and_right (has_name nets r.target) (all_among nets (targets_of rs)) h) n
    ∙ run_same (value_in nets (slice_set values (place_of nets r.target) v)) (update (value_in nets values) r.target v) rs fair.1 (λ m. write_is nets values r.target v m l there) n
