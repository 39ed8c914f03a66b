-- Masks of clauses.
use Rattle.std.proofs.Common.{◌≡◌, ◌≢◌, ℕ, ◌+◌, ◌*◌, ◌%◌, ◌^◌, ◌<◌, ◌==◌, ◌||◌, ◌⊎◌, Bool, true, false, cond, List, [], ◌∷◌, ◌++◌, length, get_or, take, refl, sym, ap, ◌∙◌, arith, inl, inr, eq-eqb, w64, length-append}
use Rattle.std.specs.Int.{bit_at}
use Rattle.std.proofs.lemmas.Nat.Bits.{same_from_bits_below, bit_at-zero, bit_at_set_same, bit_at_set_other}
use Rattle.std.specs.Int.RustNames.{bit_or}
use Rattle.std.proofs.lemmas.Nat.{or_lt}
use Rattle.std.proofs.lemmas.List.Folds.{list_any_more}
use Rattle.std.proofs.Math.Seq.{get_or-append_seam}
use Rattle.std.proofs.Math.ListN.{get_or-append}
use Rattle.std.proofs.lemmas.Bool.{eqb-true}
use Rattle.pe_cnf.specs.Clause.{has}
use Rattle.pe_refute.proofs.Sight.{or_cases, or_left, or_right}
use Rattle.pe_refute.proofs.Walk.{false_is_true}
use Rattle.pe_refute.proofs.ChainLaw.{true_or_false}
use Rattle.pe_solver.specs.Masks.{bit_of, has_bit, IsMask, AreMasks}
use Rattle.pe_solver.specs.Derivation.{AreSame}

-- a literal of this bit
bit_from : (c : List ℕ) (l i : ℕ) → has c l ≡ true → (bit_of l == i) ≡ true → has_bit c i ≡ true
bit_from [] l i h e = absurd (false_is_true false refl h)
bit_from (x ∷ c) l i h e = elim (or_cases (x == l) (has c l) h) [
  | inl s ↦ or_left _ _ (ap (λ y. bit_of y == i) (eqb-true x l s) ∙ e)
  | inr r ↦ or_right (bit_of x == i) _ (bit_from c l i r e)
]

has_part : (c d : List ℕ) (i : ℕ) → ((l : ℕ) → has c l ≡ true → has d l ≡ true) → has_bit c i ≡ true → has_bit d i ≡ true
has_part [] d i s h = absurd (false_is_true false refl h)
has_part (x ∷ c) d i s h = elim (or_cases (bit_of x == i) (has_bit c i) h) [
  | inl e ↦ bit_from d x i (s x (or_left _ _ (eq-eqb x x refl))) e
  | inr r ↦ has_part c d i (λ l p. s l (or_right (x == l) _ p)) r
]

bool_same : (a b : Bool) → (a ≡ true → b ≡ true) → (b ≡ true → a ≡ true) → a ≡ b
bool_same true b p q = sym (p refl)
bool_same false true p q = q refl
bool_same false false p q = refl

-- clauses of the same literals have the same bits
same_bits : (c d : List ℕ) (i : ℕ) → AreSame c d → has_bit c i ≡ has_bit d i
same_bits c d i s = bool_same (has_bit c i) (has_bit d i) (has_part c d i (λ l t. sym (s l) ∙ t)) (has_part d c i (λ l t. s l ∙ t))

-- so a mask of one is a mask of the other
pub mask_of_same : (c d : List ℕ) (m : ℕ) → AreSame c d → IsMask d m → IsMask c m
mask_of_same c d m s p = record { small = p.small; bits = λ i h. p.bits i h ∙ ap (λ t. cond t 1 0) (sym (same_bits c d i s)) }

-- and there is only one
pub same_mask : (c d : List ℕ) (a b : ℕ) → AreSame c d → IsMask c a → IsMask d b → a ≡ b
same_mask c d a b s p q =
    same_from_bits_below 64 a b p.small q.small (λ i h. p.bits i h ∙ ap (λ t. cond t 1 0) (same_bits c d i s) ∙ sym (q.bits i h))

pub eq_or_not : (a b : ℕ) → (a ≡ b) ⊎ (a ≢ b)
eq_or_not a b = grind arith

neq_test : (a b : ℕ) → a ≢ b → (a == b) ≡ false
neq_test a b n = elim (true_or_false (a == b)) [ inl t ↦ absurd (n (eqb-true a b t)) | inr f ↦ f ]

or_none : (b : Bool) → (b || false) ≡ b
or_none true = refl
or_none false = refl

pub mask_none : IsMask [] 0
mask_none = record { small = omega arith; bits = λ i h. bit_at-zero i }

-- one more literal
pub mask_next : (c : List ℕ) (i x m n : ℕ) → i < length c → get_or c i 0 ≡ x → n ≡ bit_or m (1 * 2 ^ (x % 64) % 2 ^ 64) → IsMask (take i c) m → IsMask (take (i + 1) c) n
mask_next c i x m n lt e is s =
    let r = bit_of x in
    let within : r < 64 = omega arith in
    let more : (j : ℕ) → has_bit (take (i + 1) c) j ≡ (has_bit (take i c) j || (bit_of x == j)) =
    λ j. list_any_more (λ l. bit_of l == j) c i 0 lt ∙ ap (λ y. has_bit (take i c) j || (bit_of y == j)) e in
    record {
      small = rw is (or_lt 64 m (1 * 2 ^ r % 2 ^ 64) s.small (omega arith));
      bits = λ j h.
          elim (eq_or_not j r) [
            | inl same ↦
                ap (λ k. bit_at n k) same ∙ ap (λ y. bit_at y r) is ∙ bit_at_set_same w64 m r within ∙
                sym (ap (λ t. cond t 1 0) (more j ∙ or_right (has_bit (take i c) j) _ (eq-eqb _ _ (sym same))))
            | inr other ↦
                ap (λ y. bit_at y j) is ∙ bit_at_set_other w64 m r within j other ∙ s.bits j h ∙
                ap (λ t. cond t 1 0) (sym (more j ∙ ap (λ t. has_bit (take i c) j || t) (neq_test r j (λ q. other (sym q))) ∙ or_none (has_bit (take i c) j)))
          ];
    }

pub lt_or_eq : (i n : ℕ) → i < n + 1 → (i < n) ⊎ (i ≡ n)
lt_or_eq i n h = grind arith

pub masks_none : AreMasks [] []
masks_none = record { count = refl; each = λ id h. absurd (omega arith) }

-- one more clause
pub masks_push : (cs : List (List ℕ)) (c : List ℕ) (ms ns : List ℕ) (m : ℕ) → ns ≡ ms ++ m ∷ [] → IsMask c m → AreMasks cs ms → AreMasks (cs ++ c ∷ []) ns
masks_push cs c ms ns m g is s =
    let count = s.count in
    rw g (record {
      count = length-append ms (m ∷ []) ∙ ap (λ n. n + 1) s.count ∙ sym (length-append cs (c ∷ []));
      each = λ id h.
          elim (lt_or_eq id (length cs) (omega (arith, length-append cs (c ∷ []), h))) [
            | inl less ↦
                let a : get_or (cs ++ c ∷ []) id [] ≡ get_or cs id [] = get_or-append cs (c ∷ []) [] id less in
                let b : get_or (ms ++ m ∷ []) id 0 ≡ get_or ms id 0 = get_or-append ms (m ∷ []) 0 id (omega arith) in
                rw (a, b) (s.each id less)
            | inr same ↦
                let a : get_or (cs ++ c ∷ []) id [] ≡ c = ap (λ j. get_or (cs ++ c ∷ []) j []) same ∙ get_or-append_seam cs c [] [] in
                let b : get_or (ms ++ m ∷ []) id 0 ≡ m = ap (λ j. get_or (ms ++ m ∷ []) j 0) (same ∙ sym count) ∙ get_or-append_seam ms m [] 0 in
                rw (a, b) is
          ];
    })
