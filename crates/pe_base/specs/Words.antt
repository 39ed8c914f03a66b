-- Operators of Verilog on vectors of values (IEEE 1364), the lowest bit first.
use Rattle.std.specs.Prelude.{ℕ, zero, suc, ◌+◌, ◌-◌, ◌*◌, ◌/◌, ◌%◌, ◌^◌, ◌==◌, nat_lt, nat_le, Bool, true, false, cond, ◌&&◌, List, [], ◌∷◌, ◌++◌, length, map, fold, take, drop, replicate, slice_index_or}
use Rattle.std.specs.List.{zip, list_all}
use Rattle.pe_base.specs.declared.value.Val.{Val}
use Rattle.pe_base.specs.declared.value.Val.TheVariants.{Zero, One, Corrupt}
use Rattle.pe_base.specs.Values.{known_of, pick_of}
use Rattle.pe_base.specs.Operators.{not_of, and_of, or_of, xor_of, xnor_of}

-- Numbers

-- 1 for a bit that is set
abbrev pub one_if : Bool → ℕ
one_if true = 1
one_if false = 0

-- the number that bits stand for
abbrev pub number_of : List Bool → ℕ
number_of [] = 0
number_of (b ∷ bs) = one_if b + 2 * number_of bs

-- the lowest bits of a number
abbrev pub bits_of : ℕ → ℕ → List Bool
bits_of zero n = []
bits_of (suc width) n = (n % 2 == 1) ∷ bits_of width (n / 2)

abbrev pub is_one : Val → Bool
is_one One = true
is_one _ = false

abbrev pub is_known : Val → Bool
is_known Corrupt = false
is_known _ = true

-- no bit is corrupt
abbrev pub all_known : List Val → Bool
all_known a = list_all is_known a

-- the number that known values stand for
abbrev pub value_number : List Val → ℕ
value_number a = number_of (map is_one a)

-- the values of a number's lowest bits
abbrev pub number_bits : ℕ → ℕ → List Val
number_bits width n = map known_of (bits_of width n)

-- Bit by bit

-- f of each pair of bits
abbrev pub each_pair : (Val → Val → Val) → List Val → List Val → List Val
each_pair f a b = map (λ p. f p.0 p.1) (zip a b)

-- ~a
abbrev pub not_bits : List Val → List Val
not_bits a = map not_of a

-- a & b, a | b, a ^ b, a ~^ b
abbrev pub and_bits : List Val → List Val → List Val
and_bits = each_pair and_of

abbrev pub or_bits : List Val → List Val → List Val
or_bits = each_pair or_of

abbrev pub xor_bits : List Val → List Val → List Val
xor_bits = each_pair xor_of

abbrev pub xnor_bits : List Val → List Val → List Val
xnor_bits = each_pair xnor_of

-- Reductions, of one bit

abbrev pub all_of : List Val → Val
all_of a = fold and_of One a

abbrev pub any_of : List Val → Val
any_of a = fold or_of Zero a

abbrev pub parity_of : List Val → Val
parity_of a = fold xor_of Zero a

-- &a, ~&a, |a, ~|a, ^a, ~^a
abbrev pub reduce_and_of : List Val → List Val
reduce_and_of a = all_of a ∷ []

abbrev pub reduce_nand_of : List Val → List Val
reduce_nand_of a = not_of (all_of a) ∷ []

abbrev pub reduce_or_of : List Val → List Val
reduce_or_of a = any_of a ∷ []

abbrev pub reduce_nor_of : List Val → List Val
reduce_nor_of a = not_of (any_of a) ∷ []

abbrev pub reduce_xor_of : List Val → List Val
reduce_xor_of a = parity_of a ∷ []

abbrev pub reduce_xnor_of : List Val → List Val
reduce_xnor_of a = not_of (parity_of a) ∷ []

-- Arithmetic: by numbers, modulo the width, and corrupt in every bit where a bit of an operand is corrupt

abbrev pub arithmetic_of : (ℕ → ℕ → ℕ) → List Val → List Val → List Val
arithmetic_of f a b = cond (all_known a && all_known b) (number_bits (length a) (f (value_number a) (value_number b))) (replicate (length a) Corrupt)

-- a + b
abbrev pub add_of : List Val → List Val → List Val
add_of a b = arithmetic_of (λ m n. m + n) a b

-- a - b
abbrev pub subtract_of : List Val → List Val → List Val
subtract_of a b = arithmetic_of (λ m n. 2 ^ length a + m - n) a b

-- Comparison by numbers, of one bit, and corrupt where a bit of an operand is

abbrev pub comparison_of : (ℕ → ℕ → Bool) → List Val → List Val → List Val
comparison_of test a b = cond (all_known a && all_known b) (known_of (test (value_number a) (value_number b))) Corrupt ∷ []

-- a < b, a <= b, a > b, a >= b
abbrev pub less_of : List Val → List Val → List Val
less_of = comparison_of nat_lt

abbrev pub less_equal_of : List Val → List Val → List Val
less_equal_of = comparison_of nat_le

abbrev pub greater_of : List Val → List Val → List Val
greater_of = comparison_of (λ m n. nat_lt n m)

abbrev pub greater_equal_of : List Val → List Val → List Val
greater_equal_of = comparison_of (λ m n. nat_le n m)

-- a == b: 0 where two known bits differ, else corrupt where a bit is, else 1
abbrev pub equal_of : List Val → List Val → List Val
equal_of a b = all_of (xnor_bits a b) ∷ []

-- a != b
abbrev pub not_equal_of : List Val → List Val → List Val
not_equal_of a b = not_of (all_of (xnor_bits a b)) ∷ []

-- Logic, of one bit, on truth values: 1 where a bit is 1, 0 where all are 0, else corrupt

-- !a, a && b, a || b
abbrev pub logic_not_of : List Val → List Val
logic_not_of a = not_of (any_of a) ∷ []

abbrev pub logic_and_of : List Val → List Val → List Val
logic_and_of a b = and_of (any_of a) (any_of b) ∷ []

abbrev pub logic_or_of : List Val → List Val → List Val
logic_or_of a b = or_of (any_of a) (any_of b) ∷ []

-- c ? a : b, and where c's truth value is corrupt the merge of both, bit by bit
abbrev pub choose_of : List Val → List Val → List Val → List Val
choose_of c a b = each_pair (pick_of (any_of c)) b a

-- Shifts, filled with 0, and corrupt in every bit where a bit of the amount is

abbrev pub shift_of : (List Val → ℕ → List Val) → List Val → List Val → List Val
shift_of shifted a amount = cond (all_known amount) (shifted a (value_number amount)) (replicate (length a) Corrupt)

abbrev pub shifted_left : List Val → ℕ → List Val
shifted_left a n = take (length a) (replicate n Zero ++ a)

abbrev pub shifted_right : List Val → ℕ → List Val
shifted_right a n = take (length a) (drop n a ++ replicate n Zero)

-- a << amount, a >> amount
abbrev pub shift_left_of : List Val → List Val → List Val
shift_left_of = shift_of shifted_left

abbrev pub shift_right_of : List Val → List Val → List Val
shift_right_of = shift_of shifted_right

-- a[index]: corrupt where a bit of the index is, and where it is out of range
abbrev pub picked_bit : List Val → List Val → List Val
picked_bit a index = cond (all_known index) (slice_index_or a (value_number index) Corrupt) Corrupt ∷ []
