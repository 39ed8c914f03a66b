-- What a look at a clause sees.
use Rattle.std.proofs.Common.{◌≡◌, ◌≢◌, ℕ, ◌+◌, ◌<◌, ◌==◌, ◌||◌, Bool, true, false, Option, None, Some, List, [], ◌∷◌, length, get_or, take, refl, ap, sym, ◌∙◌, subst, arith, eq-eqb, inl, inr, zero, suc, ◌⊎◌, not}
use Rattle.std.proofs.lemmas.List.Folds.{list_any_more}
use Rattle.std.proofs.lemmas.Bool.{eqb-true}
use Rattle.std.proofs.lemmas.Bool.Decides.{eqb_tells}
use Rattle.pe_cnf.proofs.MarkLemmas.{not_both}
use Rattle.pe_graph.proofs.Gates.{var_of-complement_of}
use Rattle.pe_graph.specs.Literals.{complement_of, var_of}
use Rattle.pe_cnf.specs.Clause.{has}
use Rattle.pe_refute.specs.Follow.{IsConflict, IsUnit, Gives}
use Rattle.pe_refute.specs.declared.follow.Effect.TheVariants.{Neither}

pub complement_below : (l n : ℕ) → var_of l < n → var_of (complement_of l) < n
complement_below l n h = rw (var_of-complement_of l) h

pub has_more : (c : List ℕ) (i m : ℕ) → i < length c → has (take (i + 1) c) m ≡ (has (take i c) m || (get_or c i 0 == m))
has_more c i m h = list_any_more (λ x. x == m) c i 0 h

-- what is so far known of the first literals
abbrev pub SoFar : (ℕ → Bool) → List ℕ → Option ℕ → Type 0
SoFar known part None = IsConflict known part
SoFar known part (Some u) = IsUnit known part u

pub or_cases : (a b : Bool) → (a || b) ≡ true → (a ≡ true) ⊎ (b ≡ true)
or_cases true b h = inl refl
or_cases false b h = inr h

pub or_left : (a b : Bool) → a ≡ true → (a || b) ≡ true
or_left a b h = rw h refl

pub or_right : (a b : Bool) → b ≡ true → (a || b) ≡ true
or_right true b h = refl
or_right false b h = h

pub more_cases : (c : List ℕ) (i m : ℕ) → i < length c → has (take (i + 1) c) m ≡ true → (has (take i c) m ≡ true) ⊎ (get_or c i 0 ≡ m)
more_cases c i m h p =
    elim (or_cases (has (take i c) m) (get_or c i 0 == m) (sym (has_more c i m h) ∙ p)) [ inl q ↦ inl q | inr q ↦ inr (eqb-true _ _ q) ]

pub more_old : (c : List ℕ) (i m : ℕ) → i < length c → has (take i c) m ≡ true → has (take (i + 1) c) m ≡ true
more_old c i m h p = has_more c i m h ∙ or_left _ _ p

pub more_new : (c : List ℕ) (i m : ℕ) → i < length c → get_or c i 0 ≡ m → has (take (i + 1) c) m ≡ true
more_new c i m h p = has_more c i m h ∙ or_right (has (take i c) m) _ (eq-eqb _ _ p)

pub has_at : (c : List ℕ) (i : ℕ) → i < length c → has c (get_or c i 0) ≡ true
has_at [] i h = absurd (omega arith)
has_at (x ∷ c) zero h = or_left _ _ (eq-eqb x x refl)
has_at (x ∷ c) (suc i) h = or_right (x == get_or c i 0) _ (has_at c i (omega arith))

pub has_take : (c : List ℕ) (i m : ℕ) → has (take i c) m ≡ true → has c m ≡ true
has_take c zero m p = cc
has_take [] (suc i) m p = cc
has_take (x ∷ c) (suc i) m p =
    elim (or_cases (x == m) (has (take i c) m) p) [ inl q ↦ or_left _ _ q | inr q ↦ or_right (x == m) _ (has_take c i m q) ]

-- the literal is false: nothing changes
pub skip : (k : ℕ → Bool) (c : List ℕ) (i x : ℕ) (o : Option ℕ) → i < length c → get_or c i 0 ≡ x → k (complement_of x) ≡ true →
    SoFar k (take i c) o → SoFar k (take (i + 1) c) o
skip k c i x None h e f s = λ m p.
    elim (more_cases c i m h p) [ inl q ↦ s m q | inr q ↦ subst (λ n. k (complement_of n) ≡ true) (sym e ∙ q) f ]
skip k c i x (Some u) h e f s = record {
  inside = more_old c i u h s.inside;
  not_true = s.not_true;
  not_false = s.not_false;
  others = λ m p n.
      elim (more_cases c i m h p) [ inl q ↦ s.others m q n | inr q ↦ subst (λ n. k (complement_of n) ≡ true) (sym e ∙ q) f ];
}

-- the first literal without a value
pub first : (k : ℕ → Bool) (c : List ℕ) (i x : ℕ) → i < length c → get_or c i 0 ≡ x → k (complement_of x) ≡ false → k x ≡ false →
    IsConflict k (take i c) → IsUnit k (take (i + 1) c) x
first k c i x h e f t s = record {
  inside = more_new c i x h e;
  not_true = t;
  not_false = f;
  others = λ m p n. elim (more_cases c i m h p) [ inl q ↦ s m q | inr q ↦ absurd (n (sym q ∙ e)) ];
}

-- the same literal once more
pub again : (k : ℕ → Bool) (c : List ℕ) (i x u : ℕ) → i < length c → get_or c i 0 ≡ x → u ≡ x →
    IsUnit k (take i c) u → IsUnit k (take (i + 1) c) u
again k c i x u h e g s = record {
  inside = more_old c i u h s.inside;
  not_true = s.not_true;
  not_false = s.not_false;
  others = λ m p n. elim (more_cases c i m h p) [ inl q ↦ s.others m q n | inr q ↦ absurd (n (sym q ∙ e ∙ sym g)) ];
}

false_true : (b : Bool) → b ≡ false → b ≡ true → ⊥
false_true b p q = cc

-- a literal that is not false rules out a conflict, and any unit but itself
pub no_conflict : (k : ℕ → Bool) (c : List ℕ) (x : ℕ) → has c x ≡ true → k (complement_of x) ≡ false → IsConflict k c → ⊥
no_conflict k c x p f s = false_true _ f (s x p)

eq_or_not : (a b : ℕ) → (a ≡ b) ⊎ (a ≢ b)
eq_or_not a b = grind arith

pub unit_is : (k : ℕ → Bool) (c : List ℕ) (x u : ℕ) → has c x ≡ true → k (complement_of x) ≡ false → IsUnit k c u → x ≡ u
unit_is k c x u p f s = elim (eq_or_not x u) [ inl q ↦ q | inr q ↦ absurd (false_true _ f (s.others x p q)) ]

pub stop_true : (k : ℕ → Bool) (c : List ℕ) (i x : ℕ) → i < length c → get_or c i 0 ≡ x → k (complement_of x) ≡ false → k x ≡ true → Gives k c Neither
stop_true k c i x h e f t =
    let p : has c x ≡ true = subst (λ n. has c n ≡ true) e (has_at c i h) in
    (no_conflict k c x p f, λ u s. false_true (k x) (subst (λ n. k n ≡ false) (sym (unit_is k c x u p f s)) s.not_true) t)

pub stop_two : (k : ℕ → Bool) (c : List ℕ) (i x u : ℕ) → i < length c → get_or c i 0 ≡ x → k (complement_of x) ≡ false → u ≢ x →
    IsUnit k (take i c) u → Gives k c Neither
stop_two k c i x u h e f n s =
    let p : has c x ≡ true = subst (λ n. has c n ≡ true) e (has_at c i h) in
    let q : has c u ≡ true = has_take c i u s.inside in
    (no_conflict k c x p f, λ w t. n (unit_is k c u w q s.not_false t ∙ sym (unit_is k c x w p f t)))

-- a test that two numbers differ
pub ne_apart : (a b : ℕ) → not (a == b) ≡ true → a ≢ b
ne_apart a b h = elim (eqb_tells a b) [ inl t ↦ absurd (not_both (not (a == b)) h (ap not t.0)) | inr f ↦ f.1 ]

pub ne_same : (a b : ℕ) → not (a == b) ≡ false → a ≡ b
ne_same a b h = elim (eqb_tells a b) [ inl t ↦ t.1 | inr f ↦ absurd (not_both (not (a == b)) (ap not f.0) h) ]
