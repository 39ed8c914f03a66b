-- The numbers that bits stand for.
use Rattle.std.proofs.Common.{◌≡◌, ℕ, suc, ◌+◌, ◌-◌, ◌*◌, ◌/◌, ◌%◌, ◌^◌, ◌<◌, ◌==◌, Bool, true, false, not, List, [], ◌∷◌, ◌++◌, length, get_or, take, refl, sym, ap, ◌∙◌, arith}
use Rattle.std.proofs.Math.Nat.{pow-suc}
use Rattle.std.specs.Prelude.{map, nat_lt, nat_le}
use Rattle.std.proofs.lemmas.List.{length_push, length-map, take_more, length-take-le, map-append}
use Rattle.pe_base.specs.declared.value.Val.{Val}
use Rattle.pe_base.specs.declared.value.Val.TheVariants.{Zero, One, Corrupt}
use Rattle.pe_base.specs.Operators.{not_of}
use Rattle.std.proofs.lemmas.Bool.Decides.{nat_tests}
use Rattle.pe_base.specs.Adder.{sum_bit, carry_bit, less_bit}
use Rattle.pe_base.specs.Words.{one_if, number_of, bits_of, is_one, all_known, value_number}

-- one more bit, above the others
pub number_of-push : (bits : List Bool) (b : Bool) → number_of (bits ++ b ∷ []) ≡ number_of bits + 2 ^ length bits * one_if b
number_of-push [] b = omega arith
number_of-push (x ∷ bits) b =
    let rest = number_of-push bits b in
    rw (pow-suc 2 (length bits)) (omega arith)

pub number_of_below : (bits : List Bool) → number_of bits < 2 ^ length bits
number_of_below [] = omega arith
number_of_below (true ∷ bits) = let rest = number_of_below bits in rw (pow-suc 2 (length bits)) (omega arith)
number_of_below (false ∷ bits) = let rest = number_of_below bits in rw (pow-suc 2 (length bits)) (omega arith)

-- the lowest bit of a number, and the rest
low_bit : (b : Bool) (m : ℕ) → ((one_if b + 2 * m) % 2 == 1) ≡ b
low_bit true m = let e : (one_if true + 2 * m) % 2 ≡ 1 = omega arith in rw e refl
low_bit false m = let e : (one_if false + 2 * m) % 2 ≡ 0 = omega arith in rw e refl

rest_bits : (b : Bool) (m : ℕ) → (one_if b + 2 * m) / 2 ≡ m
rest_bits true m = omega arith
rest_bits false m = omega arith

-- the lowest bits of a number are those that it was made of
pub bits_of-number_of : (bits : List Bool) (more : ℕ) → bits_of (length bits) (number_of bits + 2 ^ length bits * more) ≡ bits
bits_of-number_of [] more = refl
bits_of-number_of (b ∷ bits) more =
    let m = number_of bits + 2 ^ length bits * more in
    let all : one_if b + 2 * number_of bits + 2 ^ suc (length bits) * more ≡ one_if b + 2 * m = rw (pow-suc 2 (length bits)) (omega arith) in
    rw (all, low_bit b m, rest_bits b m) (ap (λ bs. b ∷ bs) (bits_of-number_of bits more))

-- a sum of three bits
one_if-sum : (x y c : Bool) → one_if (sum_bit x y c) + 2 * one_if (carry_bit x y c) ≡ one_if x + one_if y + one_if c
one_if-sum true true true = refl
one_if-sum true true false = refl
one_if-sum true false true = refl
one_if-sum true false false = refl
one_if-sum false true true = refl
one_if-sum false true false = refl
one_if-sum false false true = refl
one_if-sum false false false = refl

-- the sums so far, with the carry, are the sum of the operands' lowest bits and what was carried in
pub record IsSum (a b : List Bool) (first : Bool) (sums : List Bool) (carry : Bool) : Type 0 where
  pub width : length sums ≡ length a
  pub number : number_of sums + 2 ^ length a * one_if carry ≡ number_of a + number_of b + one_if first

pub sum_none : (first : Bool) → IsSum [] [] first [] first
sum_none first = record { width = refl; number = omega arith }

pub sum_more : (a b : List Bool) (first : Bool) (sums : List Bool) (carry x y : Bool) → length a ≡ length b → IsSum a b first sums carry → IsSum (a ++ x ∷ []) (b ++ y ∷ []) first (sums ++ sum_bit x y carry ∷ []) (carry_bit x y carry)
sum_more a b first sums carry x y e h =
    let s = sum_bit x y carry in
    let c = carry_bit x y carry in
    let p = 2 ^ length a in
    let size : (bits : List Bool) (bit : Bool) → length (bits ++ bit ∷ []) ≡ suc (length bits) = λ bits bit. omega (arith, length_push bits bit) in
    record {
      width = size sums s ∙ ap suc h.width ∙ sym (size a x);
      number =
          let sum = ap (λ n. p * n) (one_if-sum x y carry) in
          let before = h.number in
          rw (number_of-push sums s, number_of-push a x, number_of-push b y, size a x, pow-suc 2 (length a), h.width, ← e) (omega arith);
    }

-- so they are its lowest bits
pub sum_all : (a b : List Bool) (first : Bool) (sums : List Bool) (carry : Bool) → IsSum a b first sums carry → sums ≡ bits_of (length a) (number_of a + number_of b + one_if first)
sum_all a b first sums carry h =
    rw (← h.number, ← h.width) (sym (bits_of-number_of sums (one_if carry)))

-- the complement of all bits
pub number_of-not : (bits : List Bool) → number_of (map not bits) + number_of bits + 1 ≡ 2 ^ length bits
number_of-not [] = refl
number_of-not (true ∷ bits) = let rest = number_of-not bits in rw (pow-suc 2 (length bits)) (omega arith)
number_of-not (false ∷ bits) = let rest = number_of-not bits in rw (pow-suc 2 (length bits)) (omega arith)

-- whether the first number is below the second, with one more bit above the others
module _ (a b : List Bool) (e : length a ≡ length b) where
  pub less_more : (x y : Bool) → nat_lt (number_of (a ++ x ∷ [])) (number_of (b ++ y ∷ [])) ≡ less_bit x y (nat_lt (number_of a) (number_of b))
  less_more true true =
      let below = number_of_below a in let under = number_of_below b in
      rw (number_of-push a true, number_of-push b true, ← e) (grind (arith, nat_tests))
  less_more true false =
      let below = number_of_below a in let under : number_of b < 2 ^ length a = rw (← e) at (number_of_below b) in
      rw (number_of-push a true, number_of-push b false, ← e) (grind (arith, nat_tests))
  less_more false true =
      let below = number_of_below a in let under = number_of_below b in
      rw (number_of-push a false, number_of-push b true, ← e) (grind (arith, nat_tests))
  less_more false false =
      let below = number_of_below a in let under = number_of_below b in
      rw (number_of-push a false, number_of-push b false, ← e) (grind (arith, nat_tests))

-- not below is at least
pub nat_le-not : (m n : ℕ) → nat_le m n ≡ not (nat_lt n m)
nat_le-not m n = grind (arith, nat_tests)

-- one more bit of a list of values
pub bits_more : (a : List Val) (i : ℕ) → i < length a → map is_one (take (i + 1) a) ≡ map is_one (take i a) ++ is_one (get_or a i Zero) ∷ []
bits_more a i lt = ap (map is_one) (take_more a i Zero lt) ∙ map-append is_one (take i a) (get_or a i Zero ∷ [])

pub length-bits : (a : List Val) (i : ℕ) → i < length a → length (map is_one (take i a)) ≡ i
length-bits a i lt = length-map (take i a) is_one ∙ length-take-le i a (omega arith)

-- the complement of all known values
pub value_number-not : (b : List Val) → all_known b ≡ true → value_number (map not_of b) + value_number b + 1 ≡ 2 ^ length b
value_number-not [] e = refl
value_number-not (Zero ∷ b) e = let rest = value_number-not b e in rw (pow-suc 2 (length b)) (omega arith)
value_number-not (One ∷ b) e = let rest = value_number-not b e in rw (pow-suc 2 (length b)) (omega arith)
value_number-not (Corrupt ∷ b) e = cc

-- so a sum with it is a difference
pub difference : (a b : List Val) → length a ≡ length b → all_known b ≡ true → value_number a + value_number (map not_of b) + one_if true ≡ 2 ^ length a + value_number a - value_number b
difference a b e known = let rest = value_number-not b known in rw e (omega arith)
