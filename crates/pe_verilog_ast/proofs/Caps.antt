-- Sums and products of numbers of which only what fits 64 bits is known.
use Rattle.std.proofs.Common.{◌≡◌, ℕ, zero, suc, ◌+◌, ◌*◌, ◌-◌, ◌^◌, ◌≤◌, ◌<◌, max, ap, refl, ◌∙◌, arith, mul_comm, mul-le-mul_left}
use Rattle.pe_verilog_ast.specs.Weights.{capped}

pub capped_add : (n m c d : ℕ) → c ≡ capped n → d ≡ capped m → capped (c + d) ≡ capped (n + m)
capped_add n m c d p q = omega arith

pub capped_max : (n m c d : ℕ) → c ≡ capped n → d ≡ capped m → max c d ≡ capped (max n m)
capped_max n m c d p q = omega arith

-- a factor that does not fit, and one that is not 0
both_large : (n m c d : ℕ) → 2 ^ 64 - 1 ≤ n → 2 ^ 64 - 1 ≤ c → 1 ≤ m → 1 ≤ d → capped (c * d) ≡ capped (n * m)
both_large n m c d a b e f =
    let u : c * 1 ≤ c * d = mul-le-mul_left c f in
    let v : n * 1 ≤ n * m = mul-le-mul_left n e in
    omega arith

large_left : (n m c d : ℕ) → 2 ^ 64 - 1 < n → c ≡ capped n → d ≡ capped m → capped (c * d) ≡ capped (n * m)
large_left n zero c d l p q =
    let e : d ≡ 0 = omega arith in
    ap (λ y. capped (c * y)) e ∙ omega arith
large_left n (suc m) c d l p q = both_large n (suc m) c d (omega arith) (omega arith) (omega arith) (omega arith)

by_excess : (k j n m c d : ℕ) → n - (2 ^ 64 - 1) ≡ k → m - (2 ^ 64 - 1) ≡ j → c ≡ capped n → d ≡ capped m → capped (c * d) ≡ capped (n * m)
by_excess zero zero n m c d s t p q =
    let e : c ≡ n = omega arith in
    let f : d ≡ m = omega arith in
    ap (λ x. capped (x * d)) e ∙ ap (λ y. capped (n * y)) f
by_excess zero (suc j) n m c d s t p q = ap capped (mul_comm c d) ∙ large_left m n d c (omega arith) q p ∙ ap capped (mul_comm m n)
by_excess (suc k) j n m c d s t p q = large_left n m c d (omega arith) p q

pub capped_mul : (n m c d : ℕ) → c ≡ capped n → d ≡ capped m → capped (c * d) ≡ capped (n * m)
capped_mul n m c d p q = by_excess (n - (2 ^ 64 - 1)) (m - (2 ^ 64 - 1)) n m c d refl refl p q

pub capped_factor : (n m : ℕ) → capped (capped n * m) ≡ capped (n * m)
capped_factor n zero = omega arith
capped_factor n (suc m) = by_fit (n - (2 ^ 64 - 1)) n m refl
  where
    by_fit : (k n m : ℕ) → n - (2 ^ 64 - 1) ≡ k → capped (capped n * suc m) ≡ capped (n * suc m)
    by_fit zero n m s = let e : capped n ≡ n = omega arith in ap (λ x. capped (x * suc m)) e
    by_fit (suc k) n m s = both_large n (suc m) (capped n) (suc m) (omega arith) (omega arith) (omega arith) (omega arith)

-- one more digit of a number: v is its value so far, and p what the digit b counts
pub capped_digit : (v p b n : ℕ) → capped (capped (v + capped (p * b)) + capped (p + p) * n) ≡ capped (v + p * (b + 2 * n))
capped_digit v p b n =
    let e : capped (capped (p + p) * n) ≡ capped ((p + p) * n) = capped_factor (p + p) n in
    omega arith

pub capped_total : (s o t : ℕ) → capped (capped (s + capped o) + t) ≡ capped (s + (o + t))
capped_total s o t = omega arith
