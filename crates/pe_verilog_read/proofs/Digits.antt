-- Bits of numbers, one after the other.
use Rattle.std.proofs.Common.{◌≡◌, ℕ, zero, suc, ◌+◌, ◌-◌, ◌*◌, ◌/◌, ◌%◌, ◌^◌, ◌<◌, ◌≤◌, Bool, true, false, cond, List, [], ◌∷◌, ◌++◌, length, get_or, drop, take, append_assoc, append-nil, refl, sym, ap, ◌∙◌, arith}
use Rattle.std.proofs.Math.Nat.{add-mod, mod-mod}
use Rattle.std.proofs.Math.Pow.{mod-mod-pow}
use Rattle.std.proofs.lemmas.Nat.{mul-mod, mod-pow-add}
use Rattle.std.proofs.lemmas.List.{take_all, take_more, drop_all}
use Rattle.std.proofs.Math.Nat.{mod-eq_of_lt}
use Rattle.std.specs.Prelude.{◌==◌}
use Rattle.pe_verilog_ast.specs.declared.number.Digit.{Digit}
use Rattle.pe_verilog_ast.specs.declared.number.Digit.TheVariants.{One, Zero}
use Rattle.pe_verilog_read.specs.Numbers.{bit_of, bits_of, grown_of, value_of, digit_bits, digits_bits, fitted}
use Rattle.pe_verilog_read.proofs.Spellings.{drop-next}

one_less : (n i : ℕ) → i < n → n - i ≡ suc (n - (i + 1))
one_less n i h = omega arith

-- one bit more
pub bits_step : (start all after : List Digit) (count i rest : ℕ) (b : Digit) → i < count → start ≡ all ++ bits_of (count - i) rest → b ≡ bit_of rest → after ≡ all ++ b ∷ [] →
    start ≡ after ++ bits_of (count - (i + 1)) (rest / 2)
bits_step start all after count i rest b h p q r =
    p
    ∙ ap (λ n. all ++ bits_of n rest) (one_less count i h)
    ∙ ap (λ x. all ++ x ∷ bits_of (count - (i + 1)) (rest / 2)) (sym q)
    ∙ sym (append_assoc all (b ∷ []) (bits_of (count - (i + 1)) (rest / 2)))
    ∙ ap (λ xs. xs ++ bits_of (count - (i + 1)) (rest / 2)) (sym r)

drop_none : (k : ℕ) → drop {A = Digit} k [] ≡ []
drop_none zero = refl
drop_none (suc k) = refl

fitted_next : (n k : ℕ) (bits : List Digit) (fill : Digit) → fitted (suc n) (drop k bits) fill ≡ get_or bits k fill ∷ fitted n (drop (k + 1) bits) fill
fitted_next n k [] fill =
    ap (λ xs. fitted (suc n) xs fill) (drop_none k) ∙ ap (λ x. x ∷ fitted n [] fill) (sym (get_none k)) ∙ ap (λ xs. get_or [] k fill ∷ fitted n xs fill) (sym (drop_none (k + 1)))
  where
    get_none : (k : ℕ) → get_or [] k fill ≡ fill
    get_none zero = refl
    get_none (suc k) = refl
fitted_next n zero (b ∷ bits) fill = refl
fitted_next n (suc k) (b ∷ bits) fill = fitted_next n k bits fill ∙ ap (λ xs. get_or bits k fill ∷ fitted n xs fill) (sym (dropped k))
  where
    dropped : (k : ℕ) → drop (suc k + 1) (b ∷ bits) ≡ drop (k + 1) bits
    dropped k = let e : suc k + 1 ≡ suc (k + 1) = omega arith in ap (λ n. drop n (b ∷ bits)) e

-- one more of those that are cut or filled
pub fitted_step : (bits start all after : List Digit) (size i : ℕ) (b fill : Digit) → i < size → start ≡ all ++ fitted (size - i) (drop i bits) fill →
    b ≡ get_or bits i fill → after ≡ all ++ b ∷ [] → start ≡ after ++ fitted (size - (i + 1)) (drop (i + 1) bits) fill
fitted_step bits start all after size i b fill h p q r =
    p
    ∙ ap (λ n. all ++ fitted n (drop i bits) fill) (one_less size i h)
    ∙ ap (λ xs. all ++ xs) (fitted_next (size - (i + 1)) i bits fill)
    ∙ ap (λ x. all ++ x ∷ fitted (size - (i + 1)) (drop (i + 1) bits) fill) (sym q)
    ∙ sym (append_assoc all (b ∷ []) (fitted (size - (i + 1)) (drop (i + 1) bits) fill))
    ∙ ap (λ xs. xs ++ fitted (size - (i + 1)) (drop (i + 1) bits) fill) (sym r)

-- the last digit is the lowest
digits_last : (width : ℕ) (bytes : List ℕ) (b : ℕ) → digits_bits width (bytes ++ b ∷ []) ≡ digit_bits width b ++ digits_bits width bytes
digits_last width [] b = sym (append-nil (digit_bits width b))
digits_last width (c ∷ cs) b =
    ap (λ xs. xs ++ digit_bits width c) (digits_last width cs b) ∙ append_assoc (digit_bits width b) (digits_bits width cs) (digit_bits width c)

pub digits_step : (width : ℕ) (left : List ℕ) (b : ℕ) (start all after : List Digit) → 1 ≤ length left → start ≡ all ++ digits_bits width left → b ≡ get_or left (length left - 1) 0 →
    after ≡ all ++ digit_bits width b → start ≡ after ++ digits_bits width (take (length left - 1) left)
digits_step width left b start all after h p q r =
    let rest = take (length left - 1) left in
    let whole : left ≡ rest ++ b ∷ [] =
    sym (take_all (length left) left (omega arith))
    ∙ ap (λ n. take n left) (omega arith)
    ∙ take_more left (length left - 1) 0 (omega arith)
    ∙ ap (λ x. rest ++ x ∷ []) (sym q) in
    p
    ∙ ap (λ bs. all ++ digits_bits width bs) whole
    ∙ ap (λ xs. all ++ xs) (digits_last width rest b)
    ∙ sym (append_assoc all (digit_bits width b) (digits_bits width rest))
    ∙ ap (λ xs. xs ++ digits_bits width rest) (sym r)

-- what is kept of a value is enough for what is kept of a longer one
kept_sum : (m n d : ℕ) → (10 * (n % m) + d) % m ≡ (10 * n + d) % m
kept_sum m n d =
    add-mod (10 * (n % m)) d m
    ∙ ap (λ x. (x + d % m) % m) (mul-mod 10 (n % m) m ∙ ap (λ x. (10 % m * x) % m) (mod-mod n m) ∙ sym (mul-mod 10 n m))
    ∙ sym (add-mod (10 * n) d m)

kept_grown : (m n b : ℕ) → grown_of (n % m) b % m ≡ grown_of n b % m
kept_grown m n b = cases (b == 95)
  where
    cases : (t : Bool) → cond t (n % m) (10 * (n % m) + (b - 48)) % m ≡ cond t n (10 * n + (b - 48)) % m
    cases true = mod-mod n m
    cases false = kept_sum m n (b - 48)

kept_value : (m n : ℕ) (bytes : List ℕ) → value_of (n % m) bytes % m ≡ value_of n bytes % m
kept_value m n [] = mod-mod n m
kept_value m n (b ∷ bs) =
    sym (kept_value m (grown_of (n % m) b) bs) ∙ ap (λ x. value_of x bs % m) (kept_grown m n b) ∙ kept_value m (grown_of n b) bs

pub value_step : (m start n after i : ℕ) (bytes : List ℕ) → i < length bytes → start ≡ value_of n (drop i bytes) % m → after ≡ grown_of n (get_or bytes i 0) % m →
    start ≡ value_of after (drop (i + 1) bytes) % m
value_step m start n after i bytes h p q =
    p
    ∙ ap (λ bs. value_of n bs % m) (drop-next i bytes 0 h)
    ∙ sym (kept_value m (grown_of n (get_or bytes i 0)) (drop (i + 1) bytes))
    ∙ ap (λ x. value_of x (drop (i + 1) bytes) % m) (sym q)

half_kept : (m n : ℕ) → n % 2 ^ (m + 1) / 2 ≡ n / 2 % 2 ^ m
half_kept m n =
    let e : n % 2 ^ (m + 1) ≡ (n / 2 % 2 ^ m) * 2 + n % 2 = mod-pow-add n m 1 in
    ap (λ x. x / 2) e ∙ halved (n / 2 % 2 ^ m) (n % 2) (omega arith)
  where
    halved : (a r : ℕ) → r < 2 → (a * 2 + r) / 2 ≡ a
    halved a r h = omega arith

low_bit : (m n : ℕ) → bit_of (n % 2 ^ (m + 1)) ≡ bit_of n
low_bit m n =
    let e : n % 2 ^ (m + 1) % 2 ≡ n % 2 = mod-mod-pow n m 1 in
    ap (λ x. cond (x == 1) One Zero) e

-- the lowest bits of what is kept
pub bits_kept : (count m n : ℕ) → count ≤ m → bits_of count (n % 2 ^ m) ≡ bits_of count n
bits_kept zero m n h = refl
bits_kept (suc count) m n h =
    let e : m ≡ (m - 1) + 1 = omega arith in
    ap (λ k. bits_of (suc count) (n % 2 ^ k)) e
    ∙ ap (λ x. x ∷ bits_of count (n % 2 ^ ((m - 1) + 1) / 2)) (low_bit (m - 1) n)
    ∙ ap (λ x. bit_of n ∷ bits_of count x) (half_kept (m - 1) n)
    ∙ ap (λ xs. bit_of n ∷ xs) (bits_kept count (m - 1) (n / 2) (omega arith))

-- at the end the value is what is kept of the whole
pub value_end : (m start n i : ℕ) (bytes : List ℕ) → length bytes ≤ i → n < m → start ≡ value_of n (drop i bytes) % m → n ≡ start
value_end m start n i bytes h small p = sym (p ∙ ap (λ bs. value_of n bs % m) (drop_all i bytes h) ∙ mod-eq_of_lt small)

pub bits_end : (bits none : List Digit) (size n value : ℕ) → size ≤ 128 → none ≡ [] → bits ≡ none ++ bits_of size value → value ≡ n % 2 ^ 128 → bits ≡ bits_of size n
bits_end bits none size n value h p q r =
    q ∙ ap (λ xs. xs ++ bits_of size value) p ∙ ap (bits_of size) r ∙ bits_kept size 128 n h
