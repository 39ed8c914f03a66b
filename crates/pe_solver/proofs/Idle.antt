-- What is idle in a walk along hints.
use Rattle.std.proofs.Common.{◌≡◌, ℕ, ◌<◌, ◌==◌, ◌||◌, ◌&&◌, Bool, true, false, List, [], ◌∷◌, length, get_or, refl, ap, sym, ◌∙◌, subst, arith, eq-eqb, inl, inr, zero, suc}
use Rattle.std.specs.List.{remove}
use Rattle.std.proofs.lemmas.Bool.{or_parts, eqb-true}
use Rattle.pe_graph.specs.Literals.{complement_of}
use Rattle.pe_cnf.specs.Clause.{has, clause_at}
use Rattle.pe_refute.specs.Follow.{denied, learned, IsUnit, Propagates, Follows}
use Rattle.pe_solver.specs.Lean.{IsLean, mentions, Tight, IsDistinct, IsKnownPart}
use Rattle.pe_refute.proofs.Sight.{unit_is, or_cases, or_left, or_right, has_at}
use Rattle.pe_refute.proofs.Walk.{Same, propagates_same, false_is_true, unit_step}
use Rattle.pe_refute.proofs.ChainLaw.{true_or_false}
use Rattle.pe_solver.proofs.Literals.{complement_twice}

pub eqb_flip : (a b : ℕ) → (a == b) ≡ (b == a)
eqb_flip a b = grind arith

or_swap : (a b c : Bool) → (a || (b || c)) ≡ (b || (a || c))
or_swap true true c = refl
or_swap true false c = refl
or_swap false true c = refl
or_swap false false c = refl

or_false : (a b : Bool) → a ≡ false → b ≡ false → (a || b) ≡ false
or_false a b p q = rw (p, q) refl

-- only what the hints mention counts, and less may be known of the rest
pub tight_local : (cs : List (List ℕ)) (j k : ℕ → Bool) (hints : List ℕ) →
    ((m : ℕ) → mentions cs hints m ≡ true → j (complement_of m) ≡ k (complement_of m)) → ((m : ℕ) → j m ≡ false → k m ≡ false) →
    Tight cs j hints → Tight cs k hints
tight_local cs j k [] a b p = p
tight_local cs j k (h ∷ []) a b p = (p.0, λ l q. sym (a l (or_left _ _ q)) ∙ p.1 l q)
tight_local cs j k (h ∷ i ∷ hints) a b p =
    let u = p.1.1 in
    let l = p.1.0 in (
      p.0,
      (
        l,
        record {
          inside = u.inside;
          not_true = b l u.not_true;
          not_false = sym (a l (or_left _ _ u.inside)) ∙ u.not_false;
          others = λ m q n. sym (a m (or_left _ _ q)) ∙ u.others m q n;
        },
        p.1.2,
        tight_local cs (learned l j) (learned l k) (i ∷ hints)
            (λ m q. ap (λ x. (complement_of m == l) || x) (a m (or_right (has (clause_at cs h) m) _ q)))
            (λ m q. let r = or_parts (m == l) (j m) q in or_false (m == l) (k m) r.0 (b m r.1))
            p.1.3,
      ),
    )

pub tight_same : (cs : List (List ℕ)) (j k : ℕ → Bool) (hints : List ℕ) → Same j k → Tight cs j hints → Tight cs k hints
tight_same cs j k hints s t = tight_local cs j k hints (λ m q. s (complement_of m)) (λ m q. sym (s m) ∙ q) t

pub tight_cons : (cs : List (List ℕ)) (k : ℕ → Bool) (h l : ℕ) (hints : List ℕ) → h < length cs → IsUnit k (clause_at cs h) l →
    mentions cs hints (complement_of l) ≡ true → Tight cs (learned l k) hints → Tight cs k (h ∷ hints)
tight_cons cs k h l [] lt u m t = absurd t
tight_cons cs k h l (i ∷ hints) lt u m t = (lt, (l, u, m, t))

-- a unit that no later hint uses can go
pub tight_without : (cs : List (List ℕ)) (k : ℕ → Bool) (l : ℕ) (hints : List ℕ) → mentions cs hints (complement_of l) ≡ false →
    Tight cs (learned l k) hints → Tight cs k hints
tight_without cs k l hints n t =
    tight_local cs (learned l k) k hints
    (λ m q. elim (true_or_false (complement_of m == l)) [
      | inl e ↦ absurd (false_is_true _ n (ap (mentions cs hints) (ap complement_of (sym (eqb-true _ _ e)) ∙ complement_twice m) ∙ q))
      | inr e ↦ rw e refl
    ])
    (λ m q. (or_parts (m == l) (k m) q).1) t

-- without what a hint uses there is no walk
pub needs : (cs : List (List ℕ)) (k : ℕ → Bool) (x : ℕ) (hints : List ℕ) → k x ≡ false → mentions cs hints (complement_of x) ≡ true →
    Propagates cs (learned x k) hints → Propagates cs k hints → ⊥
needs cs k x [] e m p q = q
needs cs k x (h ∷ []) e m p q =
    elim (or_cases (has (clause_at cs h) (complement_of x)) false m) [
      | inl r ↦ false_is_true (k x) e (ap k (sym (complement_twice x)) ∙ q.1 (complement_of x) r)
      | inr r ↦ false_is_true false refl r
    ]
needs cs k x (h ∷ i ∷ hints) e m p q =
    let l = p.1.0 in
    let u = p.1.1 in
    let c = clause_at cs h in
    let f = or_parts (complement_of l == x) (k (complement_of l)) u.not_false in
    let t = or_parts (l == x) (k l) u.not_true in
    let same : l ≡ q.1.0 = unit_is k c l q.1.0 u.inside f.1 q.1.1 in
    elim (or_cases (has c (complement_of x)) (mentions cs (i ∷ hints) (complement_of x)) m) [
      | inl r ↦
          let n : complement_of x ≡ q.1.0 = unit_is k c (complement_of x) q.1.0 r (ap k (complement_twice x) ∙ e) q.1.1 in
          let z : complement_of l ≡ x = ap complement_of (same ∙ sym n) ∙ complement_twice x in
          false_is_true _ f.0 (eq-eqb _ _ z)
      | inr r ↦
          let d : learned l k x ≡ false = or_false (x == l) (k x) (eqb_flip x l ∙ t.0) e in
          needs cs (learned l k) x (i ∷ hints) d r
          (propagates_same cs (learned l (learned x k)) (learned x (learned l k)) (i ∷ hints) (λ y. or_swap (y == l) (y == x) (k y)) p.1.2)
          (subst (λ y. Propagates cs (learned y k) (i ∷ hints)) (sym same) q.1.2)
    ]

pub tight_propagates : (cs : List (List ℕ)) (k : ℕ → Bool) (hints : List ℕ) → Tight cs k hints → Propagates cs k hints
tight_propagates cs k [] t = t
tight_propagates cs k (h ∷ []) t = t
tight_propagates cs k (h ∷ i ∷ hints) t = (t.0, (t.1.0, t.1.1, tight_propagates cs (learned t.1.0 k) (i ∷ hints) t.1.3))

pub tight_no_hint : (cs : List (List ℕ)) (k : ℕ → Bool) (hints : List ℕ) → Tight cs k hints → (n : ℕ) → n < length hints → Propagates cs k (remove hints n) → ⊥
tight_no_hint cs k [] t n lt q = t
tight_no_hint cs k (h ∷ []) t zero lt q = q
tight_no_hint cs k (h ∷ []) t (suc n) lt q = absurd (omega arith)
tight_no_hint cs k (h ∷ i ∷ hints) t zero lt q =
    needs cs k t.1.0 (i ∷ hints) t.1.1.not_true t.1.2 (tight_propagates cs (learned t.1.0 k) (i ∷ hints) t.1.3) q
tight_no_hint cs k (h ∷ i ∷ hints) t (suc n) lt q =
    tight_no_hint cs (learned t.1.0 k) (i ∷ hints) t.1.3 n (omega arith)
    ((unit_step cs k h t.1.0 (remove (i ∷ hints) n) t.0 t.1.1).0 q)

-- a literal of a clause, or one of the others
pub has_remove : (c : List ℕ) (i m : ℕ) → i < length c → has c m ≡ ((get_or c i 0 == m) || has (remove c i) m)
has_remove [] i m h = absurd (omega arith)
has_remove (x ∷ c) zero m h = refl
has_remove (x ∷ c) (suc i) m h =
    ap (λ b. (x == m) || b) (has_remove c i m (omega arith)) ∙ or_swap (x == m) (get_or c i 0 == m) (has (remove c i) m)

has_not : (c : List ℕ) (x i : ℕ) → has c x ≡ false → i < length c → (x == get_or c i 0) ≡ false
has_not [] x i e h = absurd (omega arith)
has_not (y ∷ c) x zero e h = eqb_flip x y ∙ (or_parts (y == x) (has c x) e).0
has_not (y ∷ c) x (suc i) e h = has_not c x i (or_parts (y == x) (has c x) e).1 (omega arith)

pub distinct_remove : (c : List ℕ) (i : ℕ) → IsDistinct c → i < length c → has (remove c i) (get_or c i 0) ≡ false
distinct_remove [] i d h = absurd (omega arith)
distinct_remove (x ∷ c) zero d h = d.0
distinct_remove (x ∷ c) (suc i) d h = or_false (x == get_or c i 0) _ (has_not c x i d.0 (omega arith)) (distinct_remove c i d.1 (omega arith))

bool_same : (a b : Bool) → (a ≡ true → b ≡ true) → (b ≡ true → a ≡ true) → a ≡ b
bool_same true b p q = sym (p refl)
bool_same false true p q = q refl
bool_same false false p q = refl

negated_from : (a m : ℕ) → (a == complement_of m) ≡ true → (m == complement_of a) ≡ true
negated_from a m e = eq-eqb _ _ (sym (ap complement_of (eqb-true _ _ e) ∙ complement_twice m))

eqb_negated : (a m : ℕ) → (a == complement_of m) ≡ (m == complement_of a)
eqb_negated a m = bool_same _ _ (negated_from a m) (negated_from m a)

-- no literal is idle that the hints mention
pub no_literal : (cs : List (List ℕ)) (c hints : List ℕ) → IsDistinct c → ((l : ℕ) → has c l ≡ true → mentions cs hints l ≡ true) → Follows cs c hints →
    (i : ℕ) → i < length c → Follows cs (remove c i) hints → ⊥
no_literal cs c hints d m f i h q =
    let l = get_or c i 0 in
    let known : denied (remove c i) (complement_of l) ≡ false = ap (has (remove c i)) (complement_twice l) ∙ distinct_remove c i d h in
    let used : mentions cs hints (complement_of (complement_of l)) ≡ true = ap (mentions cs hints) (complement_twice l) ∙ m l (has_at c i h) in
    needs cs (denied (remove c i)) (complement_of l) hints known used
    (propagates_same cs (denied c) (learned (complement_of l) (denied (remove c i))) hints
    (λ y. has_remove c i (complement_of y) h ∙ ap (λ b. b || has (remove c i) (complement_of y)) (eqb_negated l y)) f) q

and_left : (a b : Bool) → (a && b) ≡ true → a ≡ true
and_left true b p = refl
and_left false b p = p

and_right : (a b : Bool) → (a && b) ≡ true → b ≡ true
and_right true b p = p
and_right false b p = absurd (false_is_true false refl p)

and_true : (a b : Bool) → b ≡ true → (a && b) ≡ a
and_true true b p = p
and_true false b p = refl

false_and : (a b : Bool) → a ≡ false → (a && b) ≡ false
false_and a b p = rw p refl

-- from a tight walk and the literals that it mentions to a lean clause
pub refined : (cs : List (List ℕ)) (clause part hints : List ℕ) → IsKnownPart (mentions cs hints) clause part → Tight cs (denied clause) hints → IsLean cs part hints
refined cs clause part hints p t =
    let s : Tight cs (denied part) hints =
    tight_local cs (denied clause) (denied part) hints
    (λ m q. sym (p.same _ ∙ and_true _ _ (ap (mentions cs hints) (complement_twice m) ∙ q)))
    (λ m q. p.same _ ∙ false_and _ _ q) t in
    let f = tight_propagates cs (denied part) hints s in
    record {
      follows = f;
      no_literal = no_literal cs part hints p.distinct (λ l h. and_right (has clause l) _ (sym (p.same l) ∙ h)) f;
      no_hint = tight_no_hint cs (denied part) hints s;
    }

pub part_of : (known : ℕ → Bool) (clause part : List ℕ) → IsKnownPart known clause part → (l : ℕ) → has part l ≡ true → has clause l ≡ true
part_of known clause part p l h = and_left (has clause l) (known l) (sym (p.same l) ∙ h)
