-- The steps back through a trace, and the literals that are kept.
use Rattle.std.proofs.Common.{◌≡◌, ℕ, ◌+◌, ◌-◌, ◌<◌, ◌≤◌, ◌==◌, ◌||◌, ◌&&◌, Bool, true, false, List, [], ◌∷◌, ◌++◌, length, get_or, take, refl, ap, sym, ◌∙◌, subst, arith, reverse}
use Rattle.std.proofs.lemmas.List.{take_more, reverse-append}
use Rattle.std.proofs.lemmas.List.Folds.{list_any-append}
use Rattle.std.proofs.lemmas.Bool.{eqb-true}
use Rattle.std.proofs.lemmas.List.{get_or_read}
use Rattle.pe_graph.specs.Literals.{complement_of}
use Rattle.pe_cnf.specs.Clause.{has, clause_at}
use Rattle.pe_refute.specs.Follow.{learned, IsUnit}
use Rattle.pe_solver.specs.Walk.{after}
use Rattle.pe_solver.specs.Lean.{mentions, HasShape, IsTrace, Tight, IsDistinct}
use Rattle.pe_solver.specs.declared.finding.Trace.{Trace}
use Rattle.pe_refute.proofs.Sight.{has_more}
use Rattle.pe_refute.proofs.Walk.{false_is_true}
use Rattle.pe_solver.proofs.Idle.{eqb_flip, tight_cons, tight_without}
use Rattle.pe_solver.proofs.Walks.{after_push}

reverse_push : (kept : List ℕ) (h : ℕ) → reverse (kept ++ h ∷ []) ≡ h ∷ reverse kept
reverse_push kept h = reverse-append kept (h ∷ [])

-- what is known before and after a step of the trace
step_known : (units : List ℕ) (left : ℕ) (k : ℕ → Bool) → 0 < left → left ≤ length units →
    after (take left units) k ≡ learned (get_or units (left - 1) 0) (after (take (left - 1) units) k)
step_known units left k p le =
    let e : left ≡ (left - 1) + 1 = omega arith in
    let lt : left - 1 < length units = omega arith in
    ap (λ n. after (take n units) k) e ∙ ap (λ us. after us k) (take_more units (left - 1) 0 lt) ∙ after_push (take (left - 1) units) (get_or units (left - 1) 0) k

pub prune_used : (cs : List (List ℕ)) (k : ℕ → Bool) (t : Trace) (left h u : ℕ) (kept kept2 : List ℕ) → 0 < left → left ≤ length t.units.items →
    HasShape cs t → IsTrace cs k t → h ≡ get_or t.hints.items (left - 1) h → u ≡ get_or t.units.items (left - 1) u → kept2 ≡ kept ++ h ∷ [] →
    mentions cs (reverse kept) (complement_of u) ≡ true → Tight cs (after (take left t.units.items) k) (reverse kept) →
    Tight cs (after (take (left - 1) t.units.items) k) (reverse kept2)
prune_used cs k t left h u kept kept2 p le s w e0 f0 g m tight =
    let lt : left - 1 < length t.units.items = omega arith in
    let lh : left - 1 < length t.hints.items = omega (arith, s.pairs) in
    let e : h ≡ get_or t.hints.items (left - 1) 0 = get_or_read _ (left - 1) h lh e0 0 in
    let f : u ≡ get_or t.units.items (left - 1) 0 = get_or_read _ (left - 1) u lt f0 0 in
    let below : h < length cs = rw e (s.below (left - 1) lh) in
    let unit : IsUnit (after (take (left - 1) t.units.items) k) (clause_at cs h) u = rw (e, f) (w.units (left - 1) lt) in
    let known = after (take (left - 1) t.units.items) k in
    let t2 : Tight cs (learned u known) (reverse kept) =
    subst (λ q. Tight cs q (reverse kept)) (step_known t.units.items left k p le ∙ ap (λ x. learned x known) (sym f)) tight in
    rw (g, reverse_push kept h) (tight_cons cs known h u (reverse kept) below unit m t2)

pub prune_unused : (cs : List (List ℕ)) (k : ℕ → Bool) (t : Trace) (left u : ℕ) (kept : List ℕ) → 0 < left → left ≤ length t.units.items →
    u ≡ get_or t.units.items (left - 1) u → mentions cs (reverse kept) (complement_of u) ≡ false → Tight cs (after (take left t.units.items) k) (reverse kept) →
    Tight cs (after (take (left - 1) t.units.items) k) (reverse kept)
prune_unused cs k t left u kept p le f0 m tight =
    let lt : left - 1 < length t.units.items = omega arith in
    let f : u ≡ get_or t.units.items (left - 1) 0 = get_or_read _ (left - 1) u lt f0 0 in
    let known = after (take (left - 1) t.units.items) k in
    tight_without cs known u (reverse kept) m
    (subst (λ q. Tight cs q (reverse kept)) (step_known t.units.items left k p le ∙ ap (λ x. learned x known) (sym f)) tight)

pub mentions_push : (cs : List (List ℕ)) (kept kept2 : List ℕ) (h l : ℕ) → kept2 ≡ kept ++ h ∷ [] →
    mentions cs (reverse kept2) l ≡ (has (clause_at cs h) l || mentions cs (reverse kept) l)
mentions_push cs kept kept2 h l g = rw (g, reverse_push kept h) refl

or_false_right : (a : Bool) → (a || false) ≡ a
or_false_right true = refl
or_false_right false = refl

pub has_push : (xs : List ℕ) (x m : ℕ) → has (xs ++ x ∷ []) m ≡ (has xs m || (x == m))
has_push xs x m = list_any-append (λ y. y == m) xs (x ∷ []) ∙ ap (λ b. has xs m || b) (or_false_right (x == m))

or_false : (a b : Bool) → a ≡ false → b ≡ false → (a || b) ≡ false
or_false a b p q = rw (p, q) refl

or_first : (a b : Bool) → (a || b) ≡ false → a ≡ false
or_first false b p = refl
or_first true b p = p

or_second : (a b : Bool) → (a || b) ≡ false → b ≡ false
or_second false b p = p
or_second true b p = absurd (false_is_true true p refl)

distinct_push : (xs : List ℕ) (x : ℕ) → has xs x ≡ false → IsDistinct xs → IsDistinct (xs ++ x ∷ [])
distinct_push [] x e d = (refl, tt)
distinct_push (y ∷ xs) x e d = (
  has_push xs x y ∙ or_false (has xs y) (x == y) d.0 (eqb_flip x y ∙ or_first (y == x) (has xs x) e),
  distinct_push xs x (or_second (y == x) (has xs x) e) d.1,
)

take_same : (a k e : Bool) → (e ≡ true → k ≡ true) → ((a && k) || e) ≡ ((a || e) && k)
take_same true k false h = or_false_right k
take_same false k false h = refl
take_same true k true h = rw (h refl) refl
take_same false k true h = sym (h refl)

skip_same : (a k e : Bool) → (e ≡ true → k ≡ false) → (a && k) ≡ ((a || e) && k)
skip_same true k e h = refl
skip_same false k false h = refl
skip_same false k true h = sym (h refl)

absorbs : (a e : Bool) → (e ≡ true → a ≡ true) → a ≡ (a || e)
absorbs true e h = refl
absorbs false true h = absurd (false_is_true false refl (h refl))
absorbs false false h = refl

-- one more known literal
pub known_taken : (known : ℕ → Bool) (c : List ℕ) (i x : ℕ) (kept kept2 : List ℕ) → i < length c → get_or c i 0 ≡ x → known x ≡ true → kept2 ≡ kept ++ x ∷ [] →
    ((l : ℕ) → has kept l ≡ (has (take i c) l && known l)) → (l : ℕ) → has kept2 l ≡ (has (take (i + 1) c) l && known l)
known_taken known c i x kept kept2 lt e t g s m =
    ap (λ k. has k m) g ∙ has_push kept x m ∙ ap (λ b. b || (x == m)) (s m) ∙
    take_same (has (take i c) m) (known m) (x == m) (λ q. ap known (sym (eqb-true x m q)) ∙ t) ∙
    ap (λ b. b && known m) (sym (has_more c i m lt ∙ ap (λ y. has (take i c) m || (y == m)) e))

-- one that is not known
pub known_skipped : (known : ℕ → Bool) (c : List ℕ) (i x : ℕ) (kept : List ℕ) → i < length c → get_or c i 0 ≡ x → known x ≡ false →
    ((l : ℕ) → has kept l ≡ (has (take i c) l && known l)) → (l : ℕ) → has kept l ≡ (has (take (i + 1) c) l && known l)
known_skipped known c i x kept lt e f s m =
    s m ∙ skip_same (has (take i c) m) (known m) (x == m) (λ q. ap known (sym (eqb-true x m q)) ∙ f) ∙
    ap (λ b. b && known m) (sym (has_more c i m lt ∙ ap (λ y. has (take i c) m || (y == m)) e))

-- one more literal, of which there are no more so far
pub once_taken : (c : List ℕ) (i x : ℕ) (kept kept2 : List ℕ) → i < length c → get_or c i 0 ≡ x → kept2 ≡ kept ++ x ∷ [] →
    ((l : ℕ) → has kept l ≡ has (take i c) l) → (l : ℕ) → has kept2 l ≡ has (take (i + 1) c) l
once_taken c i x kept kept2 lt e g s m =
    ap (λ k. has k m) g ∙ has_push kept x m ∙ ap (λ b. b || (x == m)) (s m) ∙ sym (has_more c i m lt ∙ ap (λ y. has (take i c) m || (y == m)) e)

pub once_distinct : (kept kept2 : List ℕ) (x : ℕ) → kept2 ≡ kept ++ x ∷ [] → has kept x ≡ false → IsDistinct kept → IsDistinct kept2
once_distinct kept kept2 x g f d = subst IsDistinct (sym g) (distinct_push kept x f d)

-- one that is there already
pub once_skipped : (c : List ℕ) (i x : ℕ) (kept : List ℕ) → i < length c → get_or c i 0 ≡ x → has kept x ≡ true →
    ((l : ℕ) → has kept l ≡ has (take i c) l) → (l : ℕ) → has kept l ≡ has (take (i + 1) c) l
once_skipped c i x kept lt e t s m =
    s m ∙ absorbs (has (take i c) m) (x == m) (λ q. sym (s m) ∙ ap (has kept) (sym (eqb-true x m q)) ∙ t) ∙
    sym (has_more c i m lt ∙ ap (λ y. has (take i c) m || (y == m)) e)

or_swap : (a b : Bool) → (a || b) ≡ (b || a)
or_swap true true = refl
or_swap true false = refl
or_swap false true = refl
or_swap false false = refl

pub has_one_more : (kept kept2 : List ℕ) (x m : ℕ) (known : Bool) → kept2 ≡ kept ++ x ∷ [] → known ≡ has kept m → ((m == x) || known) ≡ has kept2 m
has_one_more kept kept2 x m known g e =
    ap (λ b. (m == x) || b) e ∙ ap (λ b. b || has kept m) (eqb_flip m x) ∙ or_swap (x == m) (has kept m) ∙ sym (has_push kept x m) ∙ ap (λ k. has k m) (sym g)
