-- Sums and comparisons that are kept where all bits are known.
use Rattle.std.proofs.Common.{◌≡◌, ℕ, zero, suc, ◌+◌, ◌/◌, ◌^◌, Bool, true, false, cond, not, ◌&&◌, List, [], ◌∷◌, length, refl, sym, ap, ◌∙◌, arith}
use Rattle.std.specs.Prelude.{All, map, nat_lt, replicate}
use Rattle.std.proofs.lemmas.List.{length-map}
use Rattle.pe_base.specs.declared.value.Val.{Val}
use Rattle.pe_base.specs.declared.value.Val.TheVariants.{Corrupt}
use Rattle.pe_base.specs.Values.{known_of}
use Rattle.pe_base.specs.Registers.{kept_of}
use Rattle.pe_base.specs.Words.{is_one, all_known, one_if, number_of, bits_of, value_number, number_bits, less_equal_of, greater_of, greater_equal_of}
use Rattle.pe_base.proofs.Numbers.{number_of-not, nat_le-not}
use Rattle.pe_graph.specs.declared.graph.Node.{Node}
use Rattle.pe_graph.specs.Nodes.{value_in, Gives}
use Rattle.pe_graph.proofs.Growth.{grows_on}
use Rattle.pe_rail_ops.specs.declared.bit.Rail.{Rail}
use Rattle.pe_rail_ops.specs.Adders.{flipped, sums_of, total_of}
use Rattle.pe_rail_ops.specs.Rails.{rail_in, rails_in, IsRail, GivesRail, GivesRails}
use Rattle.pe_rail_ops.proofs.Rails.{rails_same, gives_on, rails_on}
use Rattle.pe_rail_ops.proofs.Loops.{length-rails_in, one_rail}

-- values that power keeps, and that it does not
pub kept_all_on : (xs : List Val) → map (kept_of true) xs ≡ xs
kept_all_on [] = refl
kept_all_on (x ∷ xs) = ap (λ ys. x ∷ ys) (kept_all_on xs)

pub kept_all_off : (xs : List Val) → map (kept_of false) xs ≡ replicate (length xs) Corrupt
kept_all_off [] = refl
kept_all_off (x ∷ xs) = ap (λ ys. Corrupt ∷ ys) (kept_all_off xs)

flipped_not : (bits : List Bool) → map (flipped false) bits ≡ bits
flipped_not [] = refl
flipped_not (b ∷ bits) = ap (λ bs. b ∷ bs) (flipped_not bits)

flipped_all : (bits : List Bool) → map (flipped true) bits ≡ map not bits
flipped_all [] = refl
flipped_all (b ∷ bits) = ap (λ bs. not b ∷ bs) (flipped_all bits)

length-bits_of : (width n : ℕ) → length (bits_of width n) ≡ width
length-bits_of zero n = refl
length-bits_of (suc width) n = ap suc (length-bits_of width (n / 2))

-- the sums are those of the numbers
sums_are : (subtract : Bool) (a b : List Val) → length a ≡ length b → all_known a ≡ true → all_known b ≡ true → sums_of subtract a b ≡ total_of subtract a b
sums_are true a b e known_a known_b =
    let not_b = number_of-not (map is_one b) in
    let width = length-map b is_one in
    let power : 2 ^ length (map is_one b) ≡ 2 ^ length a = ap (λ n. 2 ^ n) (width ∙ sym e) in
    rw (known_a, known_b, flipped_all (map is_one b)) (ap (number_bits (length a)) (omega arith))
sums_are false a b e known_a known_b = rw (known_a, known_b, flipped_not (map is_one b)) (ap (number_bits (length a)) (omega arith))

length-sums_of : (subtract : Bool) (a b : List Val) → length (sums_of subtract a b) ≡ length a
length-sums_of subtract a b =
    let n = number_of (map is_one a) + number_of (map (flipped subtract) (map is_one b)) + one_if subtract in
    length-map (bits_of (length a) n) known_of ∙ length-bits_of (length a) n

-- where a bit is corrupt, all are
corrupt_total : (subtract : Bool) (a b : List Val) → (all_known a && all_known b) ≡ false → total_of subtract a b ≡ replicate (length a) Corrupt
corrupt_total true a b e = rw e refl
corrupt_total false a b e = rw e refl

parts_true : (x y : Bool) → (x && y) ≡ true → (x ≡ true) × (y ≡ true)
parts_true true y e = (refl, e)
parts_true false y e = cc

total_is : (subtract : Bool) (a b : List Val) (k : Bool) → length a ≡ length b → (all_known a && all_known b) ≡ k → map (kept_of k) (sums_of subtract a b) ≡ total_of subtract a b
total_is subtract a b true e h =
    let known = parts_true (all_known a) (all_known b) h in
    kept_all_on (sums_of subtract a b) ∙ sums_are subtract a b e known.0 known.1
total_is subtract a b false e h =
    kept_all_off (sums_of subtract a b) ∙ ap (λ n. replicate n Corrupt) (length-sums_of subtract a b) ∙ sym (corrupt_total subtract a b h)

pub total_gives : (g0 g1 g2 g3 : List Node) (subtract : Bool) (a b bits kept : List Rail) (known : ℕ) → length a ≡ length b → All (IsRail g0) a → All (IsRail g0) b → Gives g0 g1 (λ v. all_known (rails_in v g0 a) && all_known (rails_in v g0 b)) known → GivesRails g1 g2 (λ v. sums_of subtract (rails_in v g1 a) (rails_in v g1 b)) bits → GivesRails g2 g3 (λ v. map (kept_of (value_in v g2 known)) (rails_in v g2 bits)) kept → GivesRails g0 g3 (λ v. total_of subtract (rails_in v g0 a) (rails_in v g0 b)) kept
total_gives g0 g1 g2 g3 subtract a b bits kept known e ha hb p q s = rails_on g0 g2 g3 _ _ kept (grows_on g0 g1 g2 p.grows q.grows) (λ v.
    let on = q.grows.same v known p.inside ∙ p.value v in
    let x = rails_same g0 g1 a p.grows ha v in let y = rails_same g0 g1 b p.grows hb v in
    let width : length (rails_in v g0 a) ≡ length (rails_in v g0 b) = length-rails_in v g0 a ∙ e ∙ sym (length-rails_in v g0 b) in
    ap (λ xs. map (kept_of (value_in v g2 known)) xs) (q.values v ∙ rw (x, y) refl)
    ∙ ap (λ k. map (kept_of k) (sums_of subtract (rails_in v g0 a) (rails_in v g0 b))) on
    ∙ total_is subtract (rails_in v g0 a) (rails_in v g0 b) (all_known (rails_in v g0 a) && all_known (rails_in v g0 b)) width refl) s

pub compare_gives : (g0 g1 g2 g3 : List Node) (turn : Bool) (a b bits : List Rail) (known less flip : ℕ) (x r : Rail) → All (IsRail g0) a → All (IsRail g0) b → Gives g0 g1 (λ v. all_known (rails_in v g0 a) && all_known (rails_in v g0 b)) known → Gives g1 g2 (λ v. nat_lt (value_number (rails_in v g1 a)) (value_number (rails_in v g1 b))) less → ((v : ℕ → Bool) → value_in v g2 flip ≡ flipped turn (value_in v g2 less)) → ((v : ℕ → Bool) → rail_in v g2 x ≡ known_of (value_in v g2 flip)) → GivesRail g2 g3 (λ v. kept_of (value_in v g2 known) (rail_in v g2 x)) r → bits ≡ r ∷ [] → GivesRails g0 g3 (λ v. cond (all_known (rails_in v g0 a) && all_known (rails_in v g0 b)) (known_of (flipped turn (nat_lt (value_number (rails_in v g0 a)) (value_number (rails_in v g0 b))))) Corrupt ∷ []) bits
compare_gives g0 g1 g2 g3 turn a b bits known less flip x r ha hb p q is_flip is_x s is = one_rail g0 g3 _ r bits is (gives_on g0 g2 g3 _ _ r (grows_on g0 g1 g2 p.grows q.grows) (λ v.
    let on = q.grows.same v known p.inside ∙ p.value v in
    let ea = rails_same g0 g1 a p.grows ha v in let eb = rails_same g0 g1 b p.grows hb v in
    rw (is_x v, is_flip v, q.value v, on, ea, eb) refl) s)

-- the other comparisons by the one
swapped : (x y : Bool) (z : Val) → cond (x && y) z Corrupt ∷ [] ≡ cond (y && x) z Corrupt ∷ []
swapped true true z = refl
swapped true false z = refl
swapped false true z = refl
swapped false false z = refl

pub less_equal_is : (a b : List Val) → cond (all_known b && all_known a) (known_of (not (nat_lt (value_number b) (value_number a)))) Corrupt ∷ [] ≡ less_equal_of a b
less_equal_is a b = swapped (all_known b) (all_known a) (known_of (not (nat_lt (value_number b) (value_number a)))) ∙ rw (nat_le-not (value_number a) (value_number b)) refl

pub greater_is : (a b : List Val) → cond (all_known b && all_known a) (known_of (nat_lt (value_number b) (value_number a))) Corrupt ∷ [] ≡ greater_of a b
greater_is a b = swapped (all_known b) (all_known a) (known_of (nat_lt (value_number b) (value_number a)))

pub greater_equal_is : (a b : List Val) → cond (all_known a && all_known b) (known_of (not (nat_lt (value_number a) (value_number b)))) Corrupt ∷ [] ≡ greater_equal_of a b
greater_equal_is a b = rw (nat_le-not (value_number b) (value_number a)) refl
