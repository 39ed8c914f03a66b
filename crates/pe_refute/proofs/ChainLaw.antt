-- A good chain refutes the given clauses.
use Rattle.std.proofs.Common.{◌≡◌, ◌≢◌, ℕ, ◌-◌, ◌<◌, ◌≤◌, ◌==◌, Bool, true, false, cond, List, [], ◌∷◌, length, get_or, take, refl, ap, sym, ◌∙◌, subst, arith, eq-eqb, inl, inr, zero, suc, ◌⊎◌, not, add-one}
use Rattle.std.proofs.lemmas.Bool.{eqb-true}
use Rattle.pe_graph.proofs.Gates.{var_of-complement_of, is_negated-complement_of}
use Rattle.pe_graph.specs.Literals.{complement_of, is_negated, var_of}
use Rattle.pe_cnf.specs.Clause.{has, clause_at, literal_value, clause_value, Satisfies}
use Rattle.pe_refute.specs.Follow.{denied, learned, IsConflict, IsUnit, Propagates, Follows}
use Rattle.pe_refute.specs.Chain.{clause_of, all_clauses, DerivedUpTo, IsGoodChain}
use Rattle.pe_refute.specs.declared.evidence.Derived.{Derived}
use Rattle.pe_refute.proofs.Sight.{or_cases, or_left, or_right}
use Rattle.pe_refute.proofs.Walk.{false_is_true}
use Rattle.pe_refute.proofs.Numbers.{satisfies_more}
use Rattle.std.proofs.lemmas.List.{append-nil}

-- what is known is true
abbrev pub Holds : (ℕ → Bool) → (ℕ → Bool) → Type 0
Holds v known = (l : ℕ) → known l ≡ true → literal_value v l ≡ true

not_cond : (t x : Bool) → cond (not t) (not x) x ≡ not (cond t (not x) x)
not_cond true true = refl
not_cond true false = refl
not_cond false x = refl

pub value_complement : (v : ℕ → Bool) (l : ℕ) → literal_value v (complement_of l) ≡ not (literal_value v l)
value_complement v l = rw (var_of-complement_of l, is_negated-complement_of l) (not_cond (is_negated l) (v (var_of l)))

pub true_or_false : (b : Bool) → (b ≡ true) ⊎ (b ≡ false)
true_or_false true = inl refl
true_or_false false = inr refl

-- a true clause has a true literal
pub some_true : (v : ℕ → Bool) (c : List ℕ) → clause_value v c ≡ true → (l : ℕ) × (has c l ≡ true) × (literal_value v l ≡ true)
some_true v [] e = absurd (false_is_true false refl e)
some_true v (x ∷ c) e = elim (or_cases (literal_value v x) (clause_value v c) e) [
  | inl t ↦ (x, or_left _ _ (eq-eqb x x refl), t)
  | inr f ↦ let r = some_true v c f in (r.0, or_right (x == r.0) _ r.1, r.2)
]

-- a clause is true where one of its literals is
pub true_from : (v : ℕ → Bool) (c : List ℕ) (l : ℕ) → has c l ≡ true → literal_value v l ≡ true → clause_value v c ≡ true
true_from v [] l h t = absurd (false_is_true false refl h)
true_from v (x ∷ c) l h t = elim (or_cases (x == l) (has c l) h) [
  | inl e ↦ or_left (literal_value v x) _ (ap (literal_value v) (eqb-true x l e) ∙ t)
  | inr g ↦ or_right (literal_value v x) _ (true_from v c l g t)
]

not_true : (b : Bool) → not b ≡ true → b ≡ true → ⊥
not_true true p q = false_is_true false refl p
not_true false p q = false_is_true false refl q

-- a clause of which all that is known holds is no conflict
holds_conflict : (v k : ℕ → Bool) (c : List ℕ) → Holds v k → clause_value v c ≡ true → IsConflict k c → ⊥
holds_conflict v k c h t s =
    let r = some_true v c t in
    not_true (literal_value v r.0) (sym (value_complement v r.0) ∙ h _ (s r.0 r.1)) r.2

eq_or_not : (a b : ℕ) → (a ≡ b) ⊎ (a ≢ b)
eq_or_not a b = grind arith

-- and its unit holds
holds_unit : (v k : ℕ → Bool) (c : List ℕ) (l : ℕ) → Holds v k → clause_value v c ≡ true → IsUnit k c l → literal_value v l ≡ true
holds_unit v k c l h t u =
    let r = some_true v c t in
    elim (eq_or_not r.0 l) [
      | inl e ↦ subst (λ m. literal_value v m ≡ true) e r.2
      | inr n ↦ absurd (not_true (literal_value v r.0) (sym (value_complement v r.0) ∙ h _ (u.others r.0 r.1 n)) r.2)
    ]

holds_learned : (v k : ℕ → Bool) (l : ℕ) → Holds v k → literal_value v l ≡ true → Holds v (learned l k)
holds_learned v k l h t = λ m p. elim (or_cases (m == l) (k m) p) [
  | inl e ↦ ap (literal_value v) (eqb-true m l e) ∙ t
  | inr q ↦ h m q
]

-- what is known cannot hold where the hints lead to a conflict
pub no_holds : (v : ℕ → Bool) (cs : List (List ℕ)) (k : ℕ → Bool) (hints : List ℕ) → Satisfies v cs → Holds v k → Propagates cs k hints → ⊥
no_holds v cs k [] s h p = p
no_holds v cs k (i ∷ []) s h p = holds_conflict v k (clause_at cs i) h (s i p.0) p.1
no_holds v cs k (i ∷ j ∷ hints) s h p =
    no_holds v cs (learned p.1.0 k) (j ∷ hints) s (holds_learned v k p.1.0 h (holds_unit v k (clause_at cs i) p.1.0 h (s i p.0) p.1.1)) p.1.2

-- a clause that follows is true wherever the others are
pub follows_true : (v : ℕ → Bool) (cs : List (List ℕ)) (c hints : List ℕ) → Satisfies v cs → Follows cs c hints → clause_value v c ≡ true
follows_true v cs c hints s f = elim (true_or_false (clause_value v c)) [
  | inl t ↦ t
  | inr n ↦ absurd (no_holds v cs (denied c) hints s (λ l d.
      elim (true_or_false (literal_value v l)) [
        | inl t ↦ t
        | inr z ↦ absurd (false_is_true _ n (true_from v c (complement_of l) d (value_complement v l ∙ ap not z)))
      ]) f)
]

-- what makes the given clauses true makes those derived true
pub chain_true : (v : ℕ → Bool) (given : List (List ℕ)) (chain : List Derived) (d : Derived) → Satisfies v given → (n : ℕ) → n ≤ length chain →
    DerivedUpTo given chain n → Satisfies v (all_clauses given (take n chain))
chain_true v given chain d s zero le f = rw append-nil s
chain_true v given chain d s (suc n) le f =
    let less : n < length chain = omega arith in
    let lt : n < suc n = omega arith in
    let before = chain_true v given chain d s n (omega arith) (λ k e h. f k e (omega arith)) in
    rw (← add-one) (satisfies_more v given chain n d less before (follows_true v _ _ _ before (f n d lt)))

pub chain_refutes : (given : List (List ℕ)) (chain : List Derived) → IsGoodChain given chain → (v : ℕ → Bool) → Satisfies v given → ⊥
chain_refutes given [] g v s = omega (arith, g.ends.0)
chain_refutes given (d ∷ chain) g v s =
    let n : ℕ = length (d ∷ chain) in
    let k : ℕ = n - 1 in
    let lt : k < n = omega arith in
    let le : k ≤ n = omega arith in
    let before = chain_true v given (d ∷ chain) d s k le (λ j e h. g.derived j e (omega arith)) in
    let t : clause_value v (clause_of (get_or (d ∷ chain) k d)) ≡ true = follows_true v _ _ _ before (g.derived k d lt) in
    false_is_true false refl (rw (g.ends.1 d) at t)
