-- Steps of the loops that keep, add and compare rails.
use Rattle.std.proofs.Common.{◌≡◌, ℕ, ◌+◌, ◌<◌, ◌≤◌, Bool, true, false, ◌&&◌, ◌||◌, List, [], ◌∷◌, ◌++◌, length, get_or, take, refl, sym, ap, ◌∙◌, arith}
use Rattle.std.specs.Prelude.{All, map, nat_lt}
use Rattle.std.proofs.lemmas.List.{map-append, length-map, length-take-le}
use Rattle.std.proofs.lemmas.List.Elements.{All-push, All-nil}
use Rattle.pe_base.specs.declared.value.Val.{Val}
use Rattle.pe_base.specs.declared.value.Val.TheVariants.{Zero, One, Corrupt}
use Rattle.pe_base.specs.Values.{known_of}
use Rattle.pe_base.specs.Registers.{kept_of}
use Rattle.pe_base.specs.Adder.{less_bit}
use Rattle.pe_base.specs.Words.{is_one, is_known, all_known, value_number}
use Rattle.pe_base.proofs.Numbers.{IsSum, sum_none, sum_more, sum_all, less_more}
use Rattle.pe_graph.specs.declared.graph.Node.{Node}
use Rattle.pe_graph.specs.Literals.{truth_of}
use Rattle.pe_graph.specs.Nodes.{IsIn, IsGraph, value_in, Grows, Gives}
use Rattle.pe_graph.proofs.Growth.{grows_not, grows_on}
use Rattle.pe_graph.proofs.Gates.{value_in-truth_of, IsIn-truth_of}
use Rattle.pe_rail_ops.specs.declared.bit.Rail.{Rail}
use Rattle.pe_rail_ops.specs.declared.adder.Added.{Added}
use Rattle.pe_rail_ops.specs.Adders.{flipped, GivesSum, sums_of}
use Rattle.pe_rail_ops.specs.Rails.{rail_of, rail_in, rails_in, IsRail, GivesRail, GivesRails}
use Rattle.pe_rail_ops.proofs.Rails.{rail_same, rails_same, rails_kept, rails_as, rails_push}
use Rattle.pe_rail_ops.proofs.Loops.{rail_at, take-rails_in, take-rails_in_all, length-rails_in}

-- one value more that power keeps
pub kept_step : (g0 g1 g2 : List Node) (on : ℕ) (a bits more : List Rail) (i : ℕ) (x r : Rail) → IsIn g0 on → All (IsRail g0) a → i < length a → x ≡ get_or a i x → more ≡ bits ++ r ∷ [] → GivesRails g0 g1 (λ v. map (kept_of (value_in v g0 on)) (take i (rails_in v g0 a))) bits → GivesRail g1 g2 (λ v. kept_of (value_in v g1 on) (rail_in v g1 x)) r → GivesRails g0 g2 (λ v. map (kept_of (value_in v g0 on)) (take (i + 1) (rails_in v g0 a))) more
kept_step g0 g1 g2 on a bits more i x r ho ha lt is push before step = rails_as g0 g2 _ _ more
    (λ v.
    let p = before.grows.same v on ho in
    let q = rail_same g0 g1 x before.grows (rail_at g0 a i x ha lt is) v in
    sym (rw (take-rails_in v g0 a i x lt is, map-append (kept_of (value_in v g0 on)) (take i (rails_in v g0 a)) (rail_in v g0 x ∷ []), p, q) refl))
    (rails_push g0 g1 g2 _ (λ v. kept_of (value_in v g1 on) (rail_in v g1 x)) bits more r push before step)

pub kept_all : (old new : List Node) (on : ℕ) (a bits : List Rail) (i : ℕ) → length a ≤ i → GivesRails old new (λ v. map (kept_of (value_in v old on)) (take i (rails_in v old a))) bits → GivesRails old new (λ v. map (kept_of (value_in v old on)) (rails_in v old a)) bits
kept_all old new on a bits i past h = rails_as old new _ _ bits (λ v. ap (map (kept_of (value_in v old on))) (take-rails_in_all v old a i past)) h

-- the two sides of a rail
pub one_side : (o z : Bool) → is_one (rail_of o z) ≡ o
one_side true z = refl
one_side false true = refl
one_side false false = refl

pub known_sides : (o z : Bool) → is_known (rail_of o z) ≡ (o || z)
known_sides true z = refl
known_sides false true = refl
known_sides false false = refl

pub list_all-push : (xs : List Val) (x : Val) → all_known (xs ++ x ∷ []) ≡ (all_known xs && is_known x)
list_all-push [] Zero = refl
list_all-push [] One = refl
list_all-push [] Corrupt = refl
list_all-push (Zero ∷ xs) x = list_all-push xs x
list_all-push (One ∷ xs) x = list_all-push xs x
list_all-push (Corrupt ∷ xs) x = refl

pub known_step : (g0 g1 g2 g3 : List Node) (a : List Rail) (i all known r : ℕ) (x : Rail) → All (IsRail g0) a → i < length a → x ≡ get_or a i x → Gives g0 g1 (λ v. all_known (take i (rails_in v g0 a))) all → Gives g1 g2 (λ v. value_in v g1 x.one || value_in v g1 x.zero) known → Gives g2 g3 (λ v. value_in v g2 all && value_in v g2 known) r → Gives g0 g3 (λ v. all_known (take (i + 1) (rails_in v g0 a))) r
known_step g0 g1 g2 g3 a i all known r x ha lt is p q s =
    let h = rail_at g0 a i x ha lt is in
    record {
      grows = grows_on g0 g2 g3 (grows_on g0 g1 g2 p.grows q.grows) s.grows;
      inside = s.inside;
      value = λ v.
          let e1 = s.value v in let e2 = q.grows.same v all p.inside in let e3 = p.value v in let e4 = q.value v in
          let e5 = p.grows.same v x.one h.one_in in let e6 = p.grows.same v x.zero h.zero_in in
          let t = known_sides (value_in v g0 x.one) (value_in v g0 x.zero) in
          rw (take-rails_in v g0 a i x lt is, list_all-push (take i (rails_in v g0 a)) (rail_in v g0 x), t) (cc);
    }

pub known_all : (old new : List Node) (a : List Rail) (i r : ℕ) → length a ≤ i → Gives old new (λ v. all_known (take i (rails_in v old a))) r → Gives old new (λ v. all_known (rails_in v old a)) r
known_all old new a i r past h = record { grows = h.grows; inside = h.inside; value = λ v. h.value v ∙ ap all_known (take-rails_in_all v old a i past) }

-- one bit more of a number
pub one_bits : (v : ℕ → Bool) (g : List Node) (a : List Rail) (i : ℕ) (x : Rail) → i < length a → x ≡ get_or a i x → map is_one (take (i + 1) (rails_in v g a)) ≡ map is_one (take i (rails_in v g a)) ++ value_in v g x.one ∷ []
one_bits v g a i x lt is = rw (take-rails_in v g a i x lt is) (map-append is_one (take i (rails_in v g a)) (rail_in v g x ∷ []) ∙ ap (λ b. map is_one (take i (rails_in v g a)) ++ b ∷ []) (one_side (value_in v g x.one) (value_in v g x.zero)))

pub length-bits : (v : ℕ → Bool) (g : List Node) (a : List Rail) (i : ℕ) → i < length a → length (map is_one (take i (rails_in v g a))) ≡ i
length-bits v g a i lt = length-map (take i (rails_in v g a)) is_one ∙ length-take-le i (rails_in v g a) (let e = length-rails_in v g a in omega arith)

pub less_step : (g0 g1 g2 : List Node) (a b : List Rail) (i less r : ℕ) (x y : Rail) → length a ≡ length b → All (IsRail g0) a → All (IsRail g0) b → i < length a → x ≡ get_or a i x → y ≡ get_or b i y → Gives g0 g1 (λ v. nat_lt (value_number (take i (rails_in v g0 a))) (value_number (take i (rails_in v g0 b)))) less → Gives g1 g2 (λ v. less_bit (value_in v g1 x.one) (value_in v g1 y.one) (value_in v g1 less)) r → Gives g0 g2 (λ v. nat_lt (value_number (take (i + 1) (rails_in v g0 a))) (value_number (take (i + 1) (rails_in v g0 b)))) r
less_step g0 g1 g2 a b i less r x y e ha hb lt is_x is_y p q =
    let lt_b : i < length b = rw e at lt in
    let hx = rail_at g0 a i x ha lt is_x in let hy = rail_at g0 b i y hb lt_b is_y in
    record {
      grows = grows_on g0 g1 g2 p.grows q.grows;
      inside = q.inside;
      value = λ v.
          let e1 = q.value v in let e2 = p.grows.same v x.one hx.one_in in let e3 = p.grows.same v y.one hy.one_in in let e4 = p.value v in
          let more = less_more (map is_one (take i (rails_in v g0 a))) (map is_one (take i (rails_in v g0 b))) (length-bits v g0 a i lt ∙ sym (length-bits v g0 b i lt_b)) (value_in v g0 x.one) (value_in v g0 y.one) in
          rw (one_bits v g0 a i x lt is_x, one_bits v g0 b i y lt_b is_y) (cc);
    }

pub less_all : (old new : List Node) (a b : List Rail) (i r : ℕ) → length a ≡ length b → length a ≤ i → Gives old new (λ v. nat_lt (value_number (take i (rails_in v old a))) (value_number (take i (rails_in v old b)))) r → Gives old new (λ v. nat_lt (value_number (rails_in v old a)) (value_number (rails_in v old b))) r
less_all old new a b i r e past h = record { grows = h.grows; inside = h.inside; value = λ v. h.value v ∙ rw (take-rails_in_all v old a i past, take-rails_in_all v old b i (rw e at past)) refl }

-- the sums so far, as known rails
pub record AreSums (old new : List Node) (subtract : Bool) (a b : List Rail) (i : ℕ) (sums : List Rail) (carry : ℕ) : Type 0 where
  pub grows : Grows old new
  pub are_rails : All (IsRail new) sums
  pub carry_in : IsIn new carry
  pub known : (v : ℕ → Bool) → all_known (rails_in v new sums) ≡ true
  pub sum : (v : ℕ → Bool) → IsSum (map is_one (take i (rails_in v old a))) (map (flipped subtract) (map is_one (take i (rails_in v old b)))) subtract (map is_one (rails_in v new sums)) (value_in v new carry)

one_known : (b : Bool) → is_one (known_of b) ≡ b
one_known true = refl
one_known false = refl

is_known_of : (b : Bool) → is_known (known_of b) ≡ true
is_known_of true = refl
is_known_of false = refl

-- known values are those of their bits
pub known_bits : (xs : List Val) → all_known xs ≡ true → map known_of (map is_one xs) ≡ xs
known_bits [] e = refl
known_bits (Zero ∷ xs) e = ap (λ ys. Zero ∷ ys) (known_bits xs e)
known_bits (One ∷ xs) e = ap (λ ys. One ∷ ys) (known_bits xs e)
known_bits (Corrupt ∷ xs) e = cc

pub sums_step : (g0 g1 g2 : List Node) (subtract : Bool) (a b sums more : List Rail) (i carry flip : ℕ) (x y r : Rail) (added : Added) → length a ≡ length b → All (IsRail g0) a → All (IsRail g0) b → i < length a → x ≡ get_or a i x → y ≡ get_or b i y → ((v : ℕ → Bool) → value_in v g1 flip ≡ flipped subtract (value_in v g1 y.one)) → IsRail g2 r → ((v : ℕ → Bool) → rail_in v g2 r ≡ known_of (value_in v g2 added.sum)) → more ≡ sums ++ r ∷ [] → AreSums g0 g1 subtract a b i sums carry → GivesSum g1 g2 x.one flip carry added → AreSums g0 g2 subtract a b (i + 1) more added.carry
sums_step g0 g1 g2 subtract a b sums more i carry flip x y r added e ha hb lt is_x is_y is_flip is_rail value push before step =
    let lt_b : i < length b = rw e at lt in
    let hx = rail_at g0 a i x ha lt is_x in let hy = rail_at g0 b i y hb lt_b is_y in
    rw push (record {
      grows = grows_on g0 g1 g2 before.grows step.grows;
      are_rails = All-push (IsRail g2) sums r (rails_kept g1 g2 sums step.grows before.are_rails) is_rail;
      carry_in = step.carry_in;
      known = λ v.
          let same = rails_same g1 g2 sums step.grows before.are_rails v in
          rw (map-append (rail_in v g2) sums (r ∷ []), same) (list_all-push (rails_in v g1 sums) (rail_in v g2 r) ∙ rw (before.known v, value v) (is_known_of (value_in v g2 added.sum)));
      sum = λ v.
          let same = rails_same g1 g2 sums step.grows before.are_rails v in
          let ones = one_bits v g0 a i x lt is_x in
          let flips = ap (map (flipped subtract)) (one_bits v g0 b i y lt_b is_y) ∙ map-append (flipped subtract) (map is_one (take i (rails_in v g0 b))) (value_in v g0 y.one ∷ []) in
          let bit : is_one (rail_in v g2 r) ≡ value_in v g2 added.sum = ap is_one (value v) ∙ one_known (value_in v g2 added.sum) in
          let px = before.grows.same v x.one hx.one_in in
          let py : value_in v g1 flip ≡ flipped subtract (value_in v g0 y.one) = is_flip v ∙ ap (flipped subtract) (before.grows.same v y.one hy.one_in) in
          let s = step.sum v in let k = step.carry v in
          let all = map-append (rail_in v g2) sums (r ∷ []) ∙ ap (λ xs. xs ++ rail_in v g2 r ∷ []) same in
          let bits = ap (map is_one) all ∙ map-append is_one (rails_in v g1 sums) (rail_in v g2 r ∷ []) in
          rw (ones, flips, bits, bit, s, k, px, py)
          (sum_more (map is_one (take i (rails_in v g0 a))) (map (flipped subtract) (map is_one (take i (rails_in v g0 b)))) subtract (map is_one (rails_in v g1 sums)) (value_in v g1 carry) (value_in v g0 x.one) (flipped subtract (value_in v g0 y.one))
          (length-bits v g0 a i lt ∙ sym (length-map (map is_one (take i (rails_in v g0 b))) (flipped subtract) ∙ length-bits v g0 b i lt_b)) (before.sum v));
    })

pub sums_all : (old new : List Node) (subtract : Bool) (a b sums : List Rail) (i carry : ℕ) → length a ≡ length b → length a ≤ i → AreSums old new subtract a b i sums carry → GivesRails old new (λ v. sums_of subtract (rails_in v old a) (rails_in v old b)) sums
sums_all old new subtract a b sums i carry e past h = record {
  grows = h.grows;
  are_rails = h.are_rails;
  values = λ v.
      let whole = rw (take-rails_in_all v old a i past, take-rails_in_all v old b i (rw e at past)) at (h.sum v) in
      sym (known_bits (rails_in v new sums) (h.known v))
      ∙ ap (map known_of) (sum_all (map is_one (rails_in v old a)) (map (flipped subtract) (map is_one (rails_in v old b))) subtract (map is_one (rails_in v new sums)) (value_in v new carry) whole ∙ rw (length-map (rails_in v old a) is_one) refl);
}

-- constants to begin with
pub constant_gives : (nodes : List Node) (b : Bool) (x : (ℕ → Bool) → Bool) (l : ℕ) → IsGraph nodes → l ≡ truth_of b → ((v : ℕ → Bool) → b ≡ x v) → Gives nodes nodes x l
constant_gives nodes b x l graph is e = rw is (record { grows = grows_not nodes; inside = IsIn-truth_of nodes b graph; value = λ v. value_in-truth_of v nodes b graph ∙ e v })

pub sums_none : (nodes : List Node) (subtract : Bool) (a b : List Rail) (carry : ℕ) → IsGraph nodes → carry ≡ truth_of subtract → AreSums nodes nodes subtract a b 0 [] carry
sums_none nodes subtract a b carry graph is = rw is (record {
  grows = grows_not nodes;
  are_rails = All-nil (IsRail nodes);
  carry_in = IsIn-truth_of nodes subtract graph;
  known = λ v. refl;
  sum = λ v. rw (value_in-truth_of v nodes subtract graph) (sum_none subtract);
})

-- a test of both words
pub test_both : (k : List Val → Bool) (g0 g1 g2 g3 : List Node) (a b : List Rail) (x y r : ℕ) → All (IsRail g0) b → Gives g0 g1 (λ v. k (rails_in v g0 a)) x → Gives g1 g2 (λ v. k (rails_in v g1 b)) y → Gives g2 g3 (λ v. value_in v g2 x && value_in v g2 y) r → Gives g0 g3 (λ v. k (rails_in v g0 a) && k (rails_in v g0 b)) r
test_both k g0 g1 g2 g3 a b x y r hb p q s = record {
  grows = grows_on g0 g2 g3 (grows_on g0 g1 g2 p.grows q.grows) s.grows;
  inside = s.inside;
  value = λ v.
      s.value v
      ∙ ap (λ z. z && value_in v g2 y) (q.grows.same v x p.inside ∙ p.value v)
      ∙ ap (λ z. k (rails_in v g0 a) && z) (q.value v ∙ ap k (rails_same g0 g1 b p.grows hb v));
}
