-- Among more numbers than there are, two are the same.
use Rattle.std.proofs.Common.{◌≡◌, ◌⊎◌, inl, inr, ℕ, zero, suc, ◌-◌, ◌<◌, ◌≤◌, Bool, true, false, cond, refl, ap, sym, ◌∙◌, arith}
use Rattle.std.specs.Prelude.{nat_lt}
use Rattle.std.proofs.lemmas.Bool.{cases_lt, cases_eq, cases_order, ltb-true, ltb-false}

-- one of the first n is the value, or none
before : (f : ℕ → ℕ) (v n : ℕ) → ((k : ℕ) × (k < n) × (f k ≡ v)) ⊎ ((k : ℕ) → k < n → f k ≡ v → ⊥)
before f v zero = inr (λ k l. absurd (omega arith))
before f v (suc n) = elim (before f v n) [
  | inl h ↦ inl (h.0, omega (arith, h.1), h.2)
  | inr none ↦ elim (cases_eq (f n) v) [
    | inl e ↦ inl (n, omega arith, e)
    | inr ne ↦ inr (λ k l e. elim (cases_lt k n) [ inl a ↦ none k a e | inr b ↦ let same : k ≡ n = omega arith in ne (sym (ap f same) ∙ e) ])
  ]
]

-- a number with the value left out
abbrev squeezed : ℕ → ℕ → ℕ
squeezed v n = cond (nat_lt v n) (n - 1) n

squeeze_by : (v a : ℕ) → (a ≡ v → ⊥) → ((v < a) × (squeezed v a ≡ a - 1)) ⊎ ((a < v) × (squeezed v a ≡ a))
squeeze_by v a ne = elim (cases_order a v) [
  | inl e ↦ absurd (ne e)
  | inr o ↦ elim o [
    | inl l ↦ inr (l, at_false (nat_lt v a) refl l)
    | inr l ↦ inl (l, at_true (nat_lt v a) refl l)
  ]
]
  where
    at_true : (b : Bool) → nat_lt v a ≡ b → v < a → cond b (a - 1) a ≡ a - 1
    at_true true e l = refl
    at_true false e l = absurd (let m : a ≤ v = ltb-false v a e in omega arith)

    at_false : (b : Bool) → nat_lt v a ≡ b → a < v → cond b (a - 1) a ≡ a
    at_false true e l = absurd (let m : v < a = ltb-true v a e in omega arith)
    at_false false e l = refl

squeeze_below : (v a n : ℕ) → (a ≡ v → ⊥) → a < suc n → v < suc n → squeezed v a < n
squeeze_below v a n ne l m = elim (squeeze_by v a ne) [ inl h ↦ omega (arith, h.0, h.1) | inr h ↦ omega (arith, h.0, h.1) ]

squeeze_same : (v a b : ℕ) → (a ≡ v → ⊥) → (b ≡ v → ⊥) → squeezed v a ≡ squeezed v b → a ≡ b
squeeze_same v a b na nb e = elim (squeeze_by v a na) [
  | inl h ↦ elim (squeeze_by v b nb) [ inl k ↦ omega (arith, h.0, h.1, k.0, k.1) | inr k ↦ omega (arith, h.0, h.1, k.0, k.1) ]
  | inr h ↦ elim (squeeze_by v b nb) [ inl k ↦ omega (arith, h.0, h.1, k.0, k.1) | inr k ↦ omega (arith, h.0, h.1, k.0, k.1) ]
]

-- two places of the same value
pub record Twice (f : ℕ → ℕ) (n : ℕ) : Type 0 where
  pub first : ℕ
  pub second : ℕ
  pub order : first < second
  pub within : second ≤ n
  pub same : f first ≡ f second

pub twice : (n : ℕ) (f : ℕ → ℕ) → ((k : ℕ) → k ≤ n → f k < n) → Twice f n
twice zero f below = absurd (let l : f 0 < 0 = below 0 (omega arith) in omega arith)
twice (suc n) f below = elim (before f (f (suc n)) (suc n)) [
  | inl h ↦ record { first = h.0; second = suc n; order = h.1; within = omega arith; same = h.2 }
  | inr none ↦
      let ne : (k : ℕ) → k ≤ n → f k ≡ f (suc n) → ⊥ = λ k l e. none k (omega arith) e in
      let r : Twice (λ k. squeezed (f (suc n)) (f k)) n = twice n (λ k. squeezed (f (suc n)) (f k)) (λ k l. squeeze_below (f (suc n)) (f k) n (ne k l) (below k (omega arith)) (below (suc n) (omega arith))) in
      record {
        first = r.first;
        second = r.second;
        order = r.order;
        within = omega (arith, r.within);
        same = squeeze_same (f (suc n)) (f r.first) (f r.second) (ne r.first (omega (arith, r.order, r.within))) (ne r.second r.within) r.same;
      }
]
