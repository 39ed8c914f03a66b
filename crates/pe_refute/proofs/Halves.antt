-- The bits of the number of an assignment.
use Rattle.std.proofs.Common.{◌≡◌, ℕ, zero, suc, ◌+◌, ◌-◌, ◌*◌, ◌/◌, ◌%◌, ◌^◌, ◌<◌, ◌≤◌, ◌==◌, ◌⊎◌, inl, inr, Bool, true, false, cond, List, [], ◌∷◌, length, refl, sym, ap, ◌∙◌, arith}
use Rattle.pe_refute.specs.Table.{halved, Assigns}

double : (m : ℕ) → 2 ^ suc m ≡ 2 * 2 ^ m
double m = omega arith

-- halved once more
pub halved_more : (k i : ℕ) → halved k (suc i) ≡ halved k i / 2
halved_more k zero = refl
halved_more k (suc i) = halved_more (k / 2) i

-- the bits below a higher one
bits_below : (m j r : ℕ) → j < m → halved (2 ^ m + r) j % 2 ≡ halved r j % 2
bits_below zero j r h = absurd (omega arith)
bits_below (suc m) zero r h = let d = double m in omega arith
bits_below (suc m) (suc j) r h =
    let d = double m in
    let half : (2 ^ suc m + r) / 2 ≡ 2 ^ m + r / 2 = omega arith in
    ap (λ k. halved k j % 2) half ∙ bits_below m j (r / 2) (omega arith)

bit_at : (m r : ℕ) → r < 2 ^ m → halved (2 ^ m + r) m ≡ 1
bit_at zero r h = omega arith
bit_at (suc m) r h =
    let d = double m in
    let half : (2 ^ suc m + r) / 2 ≡ 2 ^ m + r / 2 = omega arith in
    ap (λ k. halved k m) half ∙ bit_at m (r / 2) (omega arith)

no_bit_at : (m r : ℕ) → r < 2 ^ m → halved r m ≡ 0
no_bit_at zero r h = omega arith
no_bit_at (suc m) r h = let d = double m in no_bit_at m (r / 2) (omega arith)

-- the number of the assignment in which the leaves have these values
abbrev pub number_of : (ℕ → Bool) → List (ℕ × ℕ) → ℕ
number_of w [] = 0
number_of w (l ∷ leaves) = cond (w l.1) (2 ^ length leaves) 0 + number_of w leaves

with_bit : (b : Bool) (p r q : ℕ) → r < p → q ≡ 2 * p → cond b p 0 + r < q
with_bit true p r q h e = omega arith
with_bit false p r q h e = omega arith

pub number_below : (w : ℕ → Bool) (leaves : List (ℕ × ℕ)) → number_of w leaves < 2 ^ length leaves
number_below w [] = omega arith
number_below w (l ∷ leaves) = with_bit (w l.1) (2 ^ length leaves) (number_of w leaves) (2 ^ length (l ∷ leaves)) (number_below w leaves) (double (length leaves))

first_bit : (b : Bool) (m r : ℕ) → r < 2 ^ m → (halved (cond b (2 ^ m) 0 + r) m % 2 == 1) ≡ b
first_bit true m r h = ap (λ k. k % 2 == 1) (bit_at m r h)
first_bit false m r h = let e : 0 + r ≡ r = omega arith in ap (λ k. k % 2 == 1) (ap (λ x. halved x m) e ∙ no_bit_at m r h)

later_bit : (b : Bool) (m j r : ℕ) → j < m → halved (cond b (2 ^ m) 0 + r) j % 2 ≡ halved r j % 2
later_bit true m j r h = bits_below m j r h
later_bit false m j r h = let e : 0 + r ≡ r = omega arith in ap (λ x. halved x j % 2) e

pub number_assigns : (w : ℕ → Bool) (leaves : List (ℕ × ℕ)) → Assigns leaves (number_of w leaves) w
number_assigns w [] i h = absurd (omega arith)
number_assigns w (l ∷ leaves) zero h =
    let m = length leaves in
    let at : length (l ∷ leaves) - 1 - 0 ≡ m = omega arith in
    sym (ap (λ j. halved (number_of w (l ∷ leaves)) j % 2 == 1) at ∙ first_bit (w l.1) m (number_of w leaves) (number_below w leaves))
number_assigns w (l ∷ leaves) (suc i) h =
    let m = length leaves in
    let j = m - 1 - i in
    let at : length (l ∷ leaves) - 1 - suc i ≡ j = omega arith in
    number_assigns w leaves i (omega arith) ∙ sym (ap (λ n. halved (number_of w (l ∷ leaves)) n % 2 == 1) at ∙ ap (λ b. b == 1) (later_bit (w l.1) m j (number_of w leaves) (omega arith)))

at_most : (m n : ℕ) → m ≤ suc n → (m ≡ suc n) ⊎ (m ≤ n)
at_most m n h = grind arith

same_power : (m n : ℕ) → m ≡ n → 2 ^ m ≤ 2 ^ n
same_power m n e = let p = ap (λ k. 2 ^ k) e in omega arith

-- no power below is larger
pub power_most : (m n : ℕ) → m ≤ n → 2 ^ m ≤ 2 ^ n
power_most m zero h = same_power m 0 (omega arith)
power_most m (suc n) h =
    elim (at_most m n h) [
      | inl e ↦ same_power m (suc n) e
      | inr le ↦ let d = double n in let r = power_most m n le in omega arith
    ]

-- the count of all assignments fits its type
pub count_all : (n m k : ℕ) → m ≡ n → 2 ^ n ≤ 2 ^ 12 → (1 * 2 ^ m) % 2 ^ 64 ≤ k → 2 ^ n ≤ k
count_all n m k e h le =
    let p : 2 ^ m ≡ 2 ^ n = ap (λ i. 2 ^ i) e in
    let one : 1 * 2 ^ m ≡ 2 ^ n = omega arith in
    let q : (2 ^ n) % 2 ^ 64 ≤ k = rw one at le in
    omega arith
