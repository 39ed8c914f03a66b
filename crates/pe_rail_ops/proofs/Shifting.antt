-- Shifts, one bit of the amount after the other.
use Rattle.std.proofs.Common.{◌≡◌, ℕ, zero, suc, ◌+◌, ◌-◌, ◌*◌, ◌^◌, ◌<◌, ◌≤◌, Bool, true, false, cond, List, [], ◌∷◌, ◌++◌, length, get_or, take, drop, refl, sym, ap, ◌∙◌, arith, inl, inr, add-one, zero-add}
use Rattle.std.specs.Prelude.{All, map, min, replicate}
use Rattle.std.proofs.Math.Seq.{take-append-add}
use Rattle.std.proofs.lemmas.Bool.{cases_lt}
use Rattle.std.proofs.lemmas.List.Elements.{All-append, All-replicate, All-take, All-drop}
use Rattle.std.proofs.Math.Nat.{pow-suc}
use Rattle.pe_base.proofs.Pairs.{length-each_pair}
use Rattle.std.proofs.lemmas.List.{ext_get_or, get_or-take, get_or-drop, get_or_append_left, get_or-append_right, get_or_past, get_or-replicate, length-take, length-drop, length-append, length-replicate, length-map, take_all, map-append}
use Rattle.pe_base.specs.declared.value.Val.{Val}
use Rattle.pe_base.specs.declared.value.Val.TheVariants.{Zero, Corrupt}
use Rattle.pe_base.specs.Values.{known_of, pick_of}
use Rattle.pe_base.specs.Registers.{kept_of}
use Rattle.pe_base.specs.Words.{is_one, all_known, one_if, number_of, value_number, each_pair}
use Rattle.pe_base.proofs.Numbers.{number_of-push}
use Rattle.pe_graph.specs.declared.graph.Node.{Node}
use Rattle.pe_graph.specs.Nodes.{value_in, Gives}
use Rattle.pe_graph.proofs.Growth.{grows_on}
use Rattle.pe_rail_ops.specs.declared.bit.Rail.{Rail}
use Rattle.pe_rail_ops.specs.declared.shifts.Direction.{Direction}
use Rattle.pe_rail_ops.specs.declared.shifts.Direction.TheVariants.{Left, Right}
use Rattle.pe_rail_ops.specs.Rails.{rail_in, rails_in, IsRail, GivesRail, GivesRails}
use Rattle.pe_rail_ops.specs.Stages.{shifted_in, shift_word, moved_rails}
use Rattle.pe_rail_ops.proofs.Rails.{rails_same, gives_on, rails_as, rails_on, rails_at_once}
use Rattle.pe_rail_ops.proofs.Loops.{rail_at, length-rails_in, take-rails_in_all}
use Rattle.pe_rail_ops.proofs.Comparison.{kept_all_on, kept_all_off}
use Rattle.pe_rail_ops.proofs.Arithmetic.{one_bits, length-bits}

-- Shifts of lists

pub length-shifted_in : (d : Direction) (fill : Val) (a : List Val) (n : ℕ) → length (shifted_in d fill a n) ≡ length a
length-shifted_in Left fill a n =
    let e1 = length-take (length a) (replicate n fill ++ a) in
    let e2 = length-append (replicate n fill) a in omega arith
length-shifted_in Right fill a n =
    let e1 = length-take (length a) (drop n a ++ replicate n fill) in
    let e2 = length-append (drop n a) (replicate n fill) in let e3 = length-drop n a in let e4 = length-replicate n fill in omega arith

-- a place of fill, inside and past it
filled : (n i : ℕ) (fill : Val) → get_or (replicate n fill) i fill ≡ fill
filled n i fill = elim (cases_lt i n) [
  | inl lt ↦ get_or-replicate n i fill fill lt
  | inr ge ↦ get_or_past (replicate n fill) i fill (let e = length-replicate n fill in omega arith)
]

pub right_at : (fill : Val) (a : List Val) (n k : ℕ) → k < length a → get_or (shifted_in Right fill a n) k fill ≡ get_or a (k + n) fill
right_at fill a n k lt =
    let size = length-drop n a in
    get_or-take (length a) (drop n a ++ replicate n fill) k fill lt
    ∙ elim (cases_lt k (length (drop n a))) [
      | inl inside ↦ get_or_append_left (drop n a) (replicate n fill) fill k inside ∙ get_or-drop n a k fill ∙ ap (λ i. get_or a i fill) (omega arith)
      | inr past ↦ get_or-append_right (drop n a) (replicate n fill) (length (drop n a)) k fill refl past ∙ filled n (k - length (drop n a)) fill ∙ sym (get_or_past a (k + n) fill (omega arith))
    ]

left_below : (fill : Val) (a : List Val) (n k : ℕ) → k < length a → k < n → get_or (shifted_in Left fill a n) k fill ≡ fill
left_below fill a n k lt below =
    get_or-take (length a) (replicate n fill ++ a) k fill lt
    ∙ get_or_append_left (replicate n fill) a fill k (let e = length-replicate n fill in omega arith) ∙ filled n k fill

left_above : (fill : Val) (a : List Val) (n k : ℕ) → k < length a → n ≤ k → get_or (shifted_in Left fill a n) k fill ≡ get_or a (k - n) fill
left_above fill a n k lt above =
    get_or-take (length a) (replicate n fill ++ a) k fill lt
    ∙ get_or-append_right (replicate n fill) a n k fill (length-replicate n fill) above

-- no shift
pub shifted_not : (d : Direction) (fill : Val) (a : List Val) → shifted_in d fill a 0 ≡ a
shifted_not Left fill a = take_all (length a) a (omega arith)
shifted_not Right fill a = ext_get_or fill (shifted_in Right fill a 0) a (length-shifted_in Right fill a 0) (λ k h.
    let lt : k < length a = rw (length-shifted_in Right fill a 0) at h in
    right_at fill a 0 k lt ∙ ap (λ i. get_or a i fill) (omega arith))

-- one shift after another, of which the second is at most by the width
twice : (d : Direction) (fill : Val) (a : List Val) (m n by : ℕ) → by ≡ min n (length a) → shifted_in d fill (shifted_in d fill a m) by ≡ shifted_in d fill a (m + n)
twice Right fill a m n by e =
    let x = shifted_in Right fill a m in
    let size = length-shifted_in Right fill a m in
    let twofold = length-shifted_in Right fill x by in
    let whole = length-shifted_in Right fill a (m + n) in
    ext_get_or fill (shifted_in Right fill x by) (shifted_in Right fill a (m + n)) (twofold ∙ size ∙ sym whole) (λ k h.
    let lt : k < length a = omega arith in
    right_at fill x by k (omega arith)
    ∙ elim (cases_lt (k + by) (length a)) [
      | inl inside ↦ right_at fill a m (k + by) inside ∙ ap (λ i. get_or a i fill) (omega arith)
      | inr past ↦ get_or_past x (k + by) fill (omega arith) ∙ sym (get_or_past a (k + (m + n)) fill (omega arith))
    ]
    ∙ sym (right_at fill a (m + n) k lt))
twice Left fill a m n by e =
    let x = shifted_in Left fill a m in
    let size = length-shifted_in Left fill a m in
    let twofold = length-shifted_in Left fill x by in
    let whole = length-shifted_in Left fill a (m + n) in
    ext_get_or fill (shifted_in Left fill x by) (shifted_in Left fill a (m + n)) (twofold ∙ size ∙ sym whole) (λ k h.
    let lt : k < length a = omega arith in
    elim (cases_lt k by) [
      | inl below ↦ left_below fill x by k (omega arith) below ∙ sym (left_below fill a (m + n) k lt (omega arith))
      | inr above ↦ left_above fill x by k (omega arith) above ∙ elim (cases_lt (k - by) m) [
        | inl under ↦ left_below fill a m (k - by) (omega arith) under ∙ sym (left_below fill a (m + n) k lt (omega arith))
        | inr over ↦ left_above fill a m (k - by) (omega arith) over ∙ ap (λ i. get_or a i fill) (omega arith) ∙ sym (left_above fill a (m + n) k lt (omega arith))
      ]
    ])

-- Values of moved rails

map-replicate : (f : Rail → Val) (n : ℕ) (x : Rail) → map f (replicate n x) ≡ replicate n (f x)
map-replicate f zero x = refl
map-replicate f (suc n) x = ap (λ ys. f x ∷ ys) (map-replicate f n x)

map-take : (f : Rail → Val) (n : ℕ) (xs : List Rail) → map f (take n xs) ≡ take n (map f xs)
map-take f zero xs = refl
map-take f (suc n) [] = refl
map-take f (suc n) (x ∷ xs) = ap (λ ys. f x ∷ ys) (map-take f n xs)

map-drop : (f : Rail → Val) (n : ℕ) (xs : List Rail) → map f (drop n xs) ≡ drop n (map f xs)
map-drop f zero xs = refl
map-drop f (suc n) [] = refl
map-drop f (suc n) (x ∷ xs) = map-drop f n xs

moved_values : (f : Rail → Val) (d : Direction) (fill : Rail) (step : ℕ) (word : List Rail) → step ≤ length word → map f (moved_rails d fill step word) ≡ shifted_in d (f fill) (map f word) step
moved_values f Left fill step word h =
    let size = length-map word f in let zeros = length-replicate step (f fill) in
    let parts : length (map f word) ≡ length (replicate step (f fill)) + (length word - step) = omega arith in
    map-append f (replicate step fill) (take (length word - step) word)
    ∙ rw (map-replicate f step fill, map-take f (length word - step) word) (sym (ap (λ w. take w (replicate step (f fill) ++ map f word)) parts ∙ take-append-add (replicate step (f fill)) (map f word) (length word - step)))
moved_values f Right fill step word h =
    let size = length-map word f in let zeros = length-replicate step (f fill) in let rest = length-drop step (map f word) in
    let both = length-append (drop step (map f word)) (replicate step (f fill)) in
    map-append f (drop step word) (replicate step fill)
    ∙ rw (map-replicate f step fill, map-drop f step word) (sym (take_all (length (map f word)) (drop step (map f word) ++ replicate step (f fill)) (omega arith)))

pub length-moved_rails : (d : Direction) (fill : Rail) (step : ℕ) (word : List Rail) → step ≤ length word → length (moved_rails d fill step word) ≡ length word
length-moved_rails Left fill step word h =
    let e1 = length-append (replicate step fill) (take (length word - step) word) in let e2 = length-replicate step fill in let e3 = length-take (length word - step) word in omega arith
length-moved_rails Right fill step word h =
    let e1 = length-append (drop step word) (replicate step fill) in let e2 = length-replicate step fill in let e3 = length-drop step word in omega arith

-- one word or the other, by a known control
chosen_word : (c : Bool) (xs ys : List Val) → length xs ≡ length ys → each_pair (pick_of (known_of c)) xs ys ≡ cond c ys xs
chosen_word true [] [] e = refl
chosen_word false [] [] e = refl
chosen_word true [] (y ∷ ys) e = absurd (omega arith)
chosen_word false [] (y ∷ ys) e = refl
chosen_word true (x ∷ xs) [] e = refl
chosen_word false (x ∷ xs) [] e = absurd (omega arith)
chosen_word true (x ∷ xs) (y ∷ ys) e = ap (λ zs. y ∷ zs) (chosen_word true xs ys (omega arith))
chosen_word false (x ∷ xs) (y ∷ ys) e = ap (λ zs. x ∷ zs) (chosen_word false xs ys (omega arith))

pub stage_gives : (g0 g1 : List Node) (d : Direction) (fill : Val) (control step : ℕ) (kn filled : Rail) (word moved next : List Rail) → step ≤ length word → ((v : ℕ → Bool) → rail_in v g0 kn ≡ known_of (value_in v g0 control)) → ((v : ℕ → Bool) → rail_in v g0 filled ≡ fill) → moved ≡ moved_rails d filled step word → GivesRails g0 g1 (λ v. each_pair (pick_of (rail_in v g0 kn)) (rails_in v g0 word) (rails_in v g0 moved)) next → GivesRails g0 g1 (λ v. cond (value_in v g0 control) (shifted_in d fill (rails_in v g0 word) step) (rails_in v g0 word)) next
stage_gives g0 g1 d fill control step kn filler word moved next h is_kn is_fill is_moved p = rails_as g0 g1 _ _ next (λ v.
    let values = ap (map (rail_in v g0)) is_moved ∙ moved_values (rail_in v g0) d filler step word h ∙ ap (λ f. shifted_in d f (rails_in v g0 word) step) (is_fill v) in
    let width : length (rails_in v g0 word) ≡ length (shifted_in d fill (rails_in v g0 word) step) = sym (length-shifted_in d fill (rails_in v g0 word) step) in
    rw (is_kn v, values) (chosen_word (value_in v g0 control) (rails_in v g0 word) (shifted_in d fill (rails_in v g0 word) step) width)) p

pub stage_width : (g0 g1 : List Node) (word next : List Rail) (x : (ℕ → Bool) → List Val) → ((v : ℕ → Bool) → length (x v) ≡ length word) → GivesRails g0 g1 x next → length next ≡ length word
stage_width g0 g1 word next x width p = let v : ℕ → Bool = λ _. false in sym (length-rails_in v g1 next) ∙ ap length (p.values v) ∙ width v

pub moved_all : (P : Rail → Type 0) (d : Direction) (fill : Rail) (step : ℕ) (word : List Rail) → P fill → All P word → All P (moved_rails d fill step word)
moved_all P Left fill step word p h = All-append P (replicate step fill) (take (length word - step) word) (All-replicate P step fill p) (All-take P (length word - step) word h)
moved_all P Right fill step word p h = All-append P (drop step word) (replicate step fill) (All-drop P step word h) (All-replicate P step fill p)

pub stage_length : (g0 g1 : List Node) (d : Direction) (step : ℕ) (kn filler : Rail) (word moved next : List Rail) → step ≤ length word → moved ≡ moved_rails d filler step word → GivesRails g0 g1 (λ v. each_pair (pick_of (rail_in v g0 kn)) (rails_in v g0 word) (rails_in v g0 moved)) next → length next ≡ length word
stage_length g0 g1 d step kn filler word moved next h is p = stage_width g0 g1 word next _ (λ v.
    let same : length word ≡ length moved = sym (ap length is ∙ length-moved_rails d filler step word h) in
    length-each_pair (pick_of (rail_in v g0 kn)) (rails_in v g0 word) (rails_in v g0 moved) (length-rails_in v g0 word ∙ same ∙ sym (length-rails_in v g0 moved)) ∙ length-rails_in v g0 word) p

-- Amounts

stage_value : (d : Direction) (fill : Val) (a : List Val) (m i by : ℕ) (b : Bool) → by ≡ min (2 ^ i) (length a) → cond b (shifted_in d fill (shifted_in d fill a m) by) (shifted_in d fill a m) ≡ shifted_in d fill a (m + 2 ^ i * one_if b)
stage_value d fill a m i by true e = twice d fill a m (2 ^ i) by e ∙ ap (shifted_in d fill a) (omega arith)
stage_value d fill a m i by false e = ap (shifted_in d fill a) (omega arith)

pub staged_none : (nodes : List Node) (d : Direction) (fill : Val) (a amount word : List Rail) → All (IsRail nodes) a → word ≡ a → GivesRails nodes nodes (λ v. shifted_in d fill (rails_in v nodes a) 0) word
staged_none nodes d fill a amount word h is = rw is (rails_at_once nodes _ a h (λ v. sym (shifted_not d fill (rails_in v nodes a))))

pub staged_step : (g0 g1 g2 : List Node) (d : Direction) (fill : Val) (a amount word next : List Rail) (i step : ℕ) (x : Rail) → All (IsRail g0) amount → i < length amount → x ≡ get_or amount i x → step ≡ min (2 ^ i) (length a) → GivesRails g0 g1 (λ v. shifted_in d fill (rails_in v g0 a) (value_number (take i (rails_in v g0 amount)))) word → GivesRails g1 g2 (λ v. cond (value_in v g1 x.one) (shifted_in d fill (rails_in v g1 word) step) (rails_in v g1 word)) next → GivesRails g0 g2 (λ v. shifted_in d fill (rails_in v g0 a) (value_number (take (i + 1) (rails_in v g0 amount)))) next
staged_step g0 g1 g2 d fill a amount word next i step x h lt is is_step p q = rails_on g0 g1 g2 _ _ next p.grows (λ v.
    let a_v = rails_in v g0 a in
    let bits = map is_one (take i (rails_in v g0 amount)) in
    let b = value_in v g0 x.one in
    let control = p.grows.same v x.one ((rail_at g0 amount i x h lt is).one_in) in
    let number : number_of (map is_one (take (i + 1) (rails_in v g0 amount))) ≡ number_of bits + 2 ^ i * one_if b =
    ap number_of (one_bits v g0 amount i x lt is) ∙ number_of-push bits b ∙ ap (λ n. number_of bits + 2 ^ n * one_if b) (length-bits v g0 amount i lt) in
    let by : step ≡ min (2 ^ i) (length a_v) = is_step ∙ ap (min (2 ^ i)) (sym (length-rails_in v g0 a)) in
    ap (λ c. cond c (shifted_in d fill (rails_in v g1 word) step) (rails_in v g1 word)) control
    ∙ ap (λ w. cond b (shifted_in d fill w step) w) (p.values v)
    ∙ stage_value d fill a_v (number_of bits) i step b by
    ∙ ap (shifted_in d fill a_v) (sym number)) q

pub staged_all : (old new : List Node) (d : Direction) (fill : Val) (a amount word : List Rail) (i : ℕ) → length amount ≤ i → GivesRails old new (λ v. shifted_in d fill (rails_in v old a) (value_number (take i (rails_in v old amount)))) word → GivesRails old new (λ v. shifted_in d fill (rails_in v old a) (value_number (rails_in v old amount))) word
staged_all old new d fill a amount word i past p = rails_as old new _ _ word (λ v. ap (λ m. shifted_in d fill (rails_in v old a) (value_number m)) (take-rails_in_all v old amount i past)) p

-- twice a step, within the width
pub next_step : (i step width next : ℕ) → step ≡ min (2 ^ i) width → next ≡ min width (step * 2) → next ≡ min (2 ^ (i + 1)) width
next_step i step width next e f = rw (add-one i, pow-suc 2 i) (omega arith)

-- Words of the amount that are known

shift_is : (d : Direction) (a amount : List Val) (k : Bool) → all_known amount ≡ k → map (kept_of k) (shifted_in d Zero a (value_number amount)) ≡ shift_word d a amount
shift_is Left a amount true e = kept_all_on (shifted_in Left Zero a (value_number amount)) ∙ rw e refl
shift_is Right a amount true e = kept_all_on (shifted_in Right Zero a (value_number amount)) ∙ rw e refl
shift_is Left a amount false e = kept_all_off (shifted_in Left Zero a (value_number amount)) ∙ rw (e, length-shifted_in Left Zero a (value_number amount)) refl
shift_is Right a amount false e = kept_all_off (shifted_in Right Zero a (value_number amount)) ∙ rw (e, length-shifted_in Right Zero a (value_number amount)) refl

pub shift_gives : (g0 g1 g2 g3 : List Node) (d : Direction) (a amount word kept : List Rail) (known : ℕ) → All (IsRail g0) a → All (IsRail g0) amount → Gives g0 g1 (λ v. all_known (rails_in v g0 amount)) known → GivesRails g1 g2 (λ v. shifted_in d Zero (rails_in v g1 a) (value_number (rails_in v g1 amount))) word → GivesRails g2 g3 (λ v. map (kept_of (value_in v g2 known)) (rails_in v g2 word)) kept → GivesRails g0 g3 (λ v. shift_word d (rails_in v g0 a) (rails_in v g0 amount)) kept
shift_gives g0 g1 g2 g3 d a amount word kept known ha hm p q s = rails_on g0 g2 g3 _ _ kept (grows_on g0 g1 g2 p.grows q.grows) (λ v.
    let on = q.grows.same v known p.inside ∙ p.value v in
    let x = rails_same g0 g1 a p.grows ha v in let y = rails_same g0 g1 amount p.grows hm v in
    ap (λ xs. map (kept_of (value_in v g2 known)) xs) (q.values v ∙ ap (λ xs. shifted_in d Zero xs (value_number (rails_in v g1 amount))) x ∙ ap (λ m. shifted_in d Zero (rails_in v g0 a) (value_number m)) y)
    ∙ ap (λ k. map (kept_of k) (shifted_in d Zero (rails_in v g0 a) (value_number (rails_in v g0 amount)))) on
    ∙ shift_is d (rails_in v g0 a) (rails_in v g0 amount) (all_known (rails_in v g0 amount)) refl) s

lowest_shifted : (a : List Val) (n : ℕ) → get_or (shifted_in Right Corrupt a n) 0 Corrupt ≡ get_or a n Corrupt
lowest_shifted [] n = refl
lowest_shifted (x ∷ xs) n = right_at Corrupt (x ∷ xs) n 0 (omega arith) ∙ ap (λ i. get_or (x ∷ xs) i Corrupt) (zero-add n)

pub picked_gives : (g0 g1 g2 g3 : List Node) (a index word : List Rail) (known : ℕ) (found bit : Rail) → All (IsRail g0) a → All (IsRail g0) index → Gives g0 g1 (λ v. all_known (rails_in v g0 index)) known → GivesRails g1 g2 (λ v. shifted_in Right Corrupt (rails_in v g1 a) (value_number (rails_in v g1 index))) word → ((v : ℕ → Bool) → rail_in v g2 found ≡ get_or (rails_in v g2 word) 0 Corrupt) → GivesRail g2 g3 (λ v. kept_of (value_in v g2 known) (rail_in v g2 found)) bit → GivesRail g0 g3 (λ v. cond (all_known (rails_in v g0 index)) (get_or (rails_in v g0 a) (value_number (rails_in v g0 index)) Corrupt) Corrupt) bit
picked_gives g0 g1 g2 g3 a index word known found bit ha hi p q is_found s = gives_on g0 g2 g3 _ _ bit (grows_on g0 g1 g2 p.grows q.grows) (λ v.
    let on = q.grows.same v known p.inside ∙ p.value v in
    let x = rails_same g0 g1 a p.grows ha v in let y = rails_same g0 g1 index p.grows hi v in
    ap (λ k. kept_of k (rail_in v g2 found)) on
    ∙ ap (kept_of (all_known (rails_in v g0 index)))
    (is_found v ∙ ap (λ xs. get_or xs 0 Corrupt) (q.values v ∙ ap (λ xs. shifted_in Right Corrupt xs (value_number (rails_in v g1 index))) x ∙ ap (λ m. shifted_in Right Corrupt (rails_in v g0 a) (value_number m)) y)
    ∙ lowest_shifted (rails_in v g0 a) (value_number (rails_in v g0 index)))) s
