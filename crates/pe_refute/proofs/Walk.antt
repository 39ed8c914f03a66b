-- Steps of a walk along hints.
use Rattle.std.proofs.Common.{◌≡◌, ℕ, ◌+◌, ◌<◌, ◌≤◌, ◌==◌, ◌||◌, ◌↔◌, Bool, true, false, List, [], ◌∷◌, length, get_or, drop, add-one, length-drop, refl, ap, sym, ◌∙◌, subst, arith}
use Rattle.std.proofs.Math.Seq.{drop-cons}
use Rattle.pe_graph.specs.Literals.{complement_of}
use Rattle.pe_cnf.specs.Clause.{clause_at}
use Rattle.pe_refute.specs.Follow.{learned, IsConflict, IsUnit, Gives, Propagates}
use Rattle.pe_refute.specs.declared.follow.Effect.TheVariants.{Neither}
use Rattle.pe_refute.proofs.Sight.{unit_is}

-- the same is known
abbrev pub Same : (ℕ → Bool) → (ℕ → Bool) → Type 0
Same j k = (l : ℕ) → j l ≡ k l

pub conflict_same : (j k : ℕ → Bool) (c : List ℕ) → Same j k → IsConflict j c → IsConflict k c
conflict_same j k c s h = λ l p. sym (s (complement_of l)) ∙ h l p

pub unit_same : (j k : ℕ → Bool) (c : List ℕ) (l : ℕ) → Same j k → IsUnit j c l → IsUnit k c l
unit_same j k c l s u = record {
  inside = u.inside;
  not_true = sym (s l) ∙ u.not_true;
  not_false = sym (s (complement_of l)) ∙ u.not_false;
  others = λ m p n. sym (s (complement_of m)) ∙ u.others m p n;
}

pub learned_same : (j k : ℕ → Bool) (l : ℕ) → Same j k → Same (learned l j) (learned l k)
learned_same j k l s m = ap (λ b. (m == l) || b) (s m)

pub propagates_same : (cs : List (List ℕ)) (j k : ℕ → Bool) (hints : List ℕ) → Same j k → Propagates cs j hints → Propagates cs k hints
propagates_same cs j k [] s p = p
propagates_same cs j k (h ∷ []) s p = (p.0, conflict_same j k _ s p.1)
propagates_same cs j k (h ∷ i ∷ hints) s p =
    (p.0, (p.1.0, unit_same j k _ _ s p.1.1, propagates_same cs (learned p.1.0 j) (learned p.1.0 k) (i ∷ hints) (learned_same j k p.1.0 s) p.1.2))

pub false_is_true : (b : Bool) → b ≡ false → b ≡ true → ⊥
false_is_true b p q = cc

pub unit_no_conflict : (k : ℕ → Bool) (c : List ℕ) (l : ℕ) → IsUnit k c l → IsConflict k c → ⊥
unit_no_conflict k c l u s = false_is_true _ u.not_false (s l u.inside)

-- a unit's hint takes the walk one step on
pub unit_step : (cs : List (List ℕ)) (k : ℕ → Bool) (h l : ℕ) (hints : List ℕ) → h < length cs → IsUnit k (clause_at cs h) l →
    Propagates cs k (h ∷ hints) ↔ Propagates cs (learned l k) hints
unit_step cs k h l [] lt u = (λ p. unit_no_conflict k _ l u p.1, λ p. absurd p)
unit_step cs k h l (i ∷ hints) lt u = (
  λ p. subst (λ m. Propagates cs (learned m k) (i ∷ hints)) (unit_is k _ p.1.0 l p.1.1.inside p.1.1.not_false u) p.1.2,
  λ p. (lt, (l, u, p)),
)

pub neither_stops : (cs : List (List ℕ)) (k : ℕ → Bool) (h : ℕ) (hints : List ℕ) → Gives k (clause_at cs h) Neither → Propagates cs k (h ∷ hints) → ⊥
neither_stops cs k h [] s p = s.0 p.1
neither_stops cs k h (i ∷ hints) s p = s.1 p.1.0 p.1.1

pub past_stops : (cs : List (List ℕ)) (k : ℕ → Bool) (h : ℕ) (hints : List ℕ) → length cs ≤ h → Propagates cs k (h ∷ hints) → ⊥
past_stops cs k h [] le p = omega (arith, p.0)
past_stops cs k h (i ∷ hints) le p = omega (arith, p.0)

pub conflict_ends : (cs : List (List ℕ)) (k : ℕ → Bool) (h : ℕ) (hints : List ℕ) → h < length cs → IsConflict k (clause_at cs h) →
    Propagates cs k (h ∷ hints) ↔ (length hints ≡ 0)
conflict_ends cs k h [] lt s = (λ p. refl, λ p. (lt, s))
conflict_ends cs k h (i ∷ hints) lt s = (λ p. absurd (unit_no_conflict k _ p.1.0 p.1.1 s), λ p. absurd (omega arith))

pub drop_is : (hints : List ℕ) (i h : ℕ) → i < length hints → get_or hints i 0 ≡ h → drop i hints ≡ h ∷ drop (i + 1) hints
drop_is hints i h lt e = rw (add-one, drop-cons hints i 0, e) refl

-- the answer at a hint that stops the walk
pub stops_answer : {F : Type 0} (cs : List (List ℕ)) (k : ℕ → Bool) (hints c : List ℕ) (i h : ℕ) →
    F ↔ Propagates cs k (drop i hints) → i < length hints → get_or hints i 0 ≡ h → c ≡ clause_at cs h → Gives k c Neither → F → ⊥
stops_answer cs k hints c i h same lt e f s p =
    neither_stops cs k h (drop (i + 1) hints) (subst (λ d. Gives k d Neither) f s) (subst (λ d. Propagates cs k d) (drop_is hints i h lt e) (same.0 p))

-- the answer at a conflict
pub conflict_answer : {F : Type 0} (cs : List (List ℕ)) (k : ℕ → Bool) (hints c : List ℕ) (i h : ℕ) →
    F ↔ Propagates cs k (drop i hints) → i < length hints → get_or hints i 0 ≡ h → h < length cs → c ≡ clause_at cs h → IsConflict k c →
    (i + 1 ≡ length hints) ↔ F
conflict_answer cs k hints c i h same lt e below f s =
    let ends = conflict_ends cs k h (drop (i + 1) hints) below (subst (λ d. IsConflict k d) f s) in
    let d = drop_is hints i h lt e in
    let n = length-drop (i + 1) hints in (
      λ p. same.1 (subst (λ x. Propagates cs k x) (sym d) (ends.1 (omega arith))),
      λ p. let z : length (drop (i + 1) hints) ≡ 0 = ends.0 (subst (λ x. Propagates cs k x) d (same.0 p)) in omega arith,
    )

-- one step on
pub unit_answer : {F : Type 0} (cs : List (List ℕ)) (k j : ℕ → Bool) (hints c : List ℕ) (i h l : ℕ) →
    F ↔ Propagates cs k (drop i hints) → i < length hints → get_or hints i 0 ≡ h → h < length cs → c ≡ clause_at cs h → IsUnit k c l →
    Same j (learned l k) → F ↔ Propagates cs j (drop (i + 1) hints)
unit_answer cs k j hints c i h l same lt e below f u s =
    let step = unit_step cs k h l (drop (i + 1) hints) below (subst (λ d. IsUnit k d l) f u) in
    let d = drop_is hints i h lt e in (
      λ p. propagates_same cs (learned l k) j _ (λ m. sym (s m)) (step.0 (subst (λ x. Propagates cs k x) d (same.0 p))),
      λ p. same.1 (subst (λ x. Propagates cs k x) (sym d) (step.1 (propagates_same cs j (learned l k) _ s p))),
    )
