-- Going through the values of the leaves.
use Rattle.std.proofs.Common.{◌≡◌, ◌≢◌, ℕ, ◌+◌, ◌-◌, ◌*◌, ◌^◌, ◌<◌, ◌≤◌, ◌==◌, true, false, List, [], ◌∷◌, ◌++◌, length, get_or, refl, ap, sym, ◌∙◌, subst, arith, inl, inr, zero, suc, ◌⊎◌, map, eq-eqb, length-append, append_assoc, Option, Some, None, not}
use Rattle.std.proofs.Math.Nat.{pow-suc, mul_comm}
use Rattle.std.proofs.Math.Seq.{get_or-append_seam}
use Rattle.std.proofs.Math.ListN.{get_or-append}
use Rattle.std.proofs.lemmas.List.{map-append}
use Rattle.std.proofs.lemmas.Bool.{eqb-true}
use Rattle.pe_graph.specs.Literals.{var_of, is_negated, complement_of}
use Rattle.pe_cnf.specs.Clause.{has, clause_at, IsBelow}
use Rattle.pe_refute.specs.Follow.{denied, learned, IsUnit, Follows}
use Rattle.pe_refute.specs.declared.evidence.Derived.{Derived}
use Rattle.pe_graph.proofs.Gates.{is_negated-complement_of}
use Rattle.pe_refute.proofs.Sight.{complement_below, or_cases, or_left, or_right}
use Rattle.pe_refute.proofs.Walk.{false_is_true}
use Rattle.pe_refute.proofs.ChainLaw.{true_or_false}
use Rattle.pe_solver.specs.Walk.{Leads}
use Rattle.pe_solver.specs.Lean.{IsPart}
use Rattle.pe_solver.specs.Derivation.{IsGrown, NoneEmpty}
use Rattle.pe_solver.specs.Prefix.{AreLeaves, IsPrefix, denials, HasKept}
use Rattle.pe_solver.specs.declared.finding.Finding.{Finding}
use Rattle.pe_solver.proofs.Literals.{complement_twice}
use Rattle.pe_solver.proofs.Parted.{has_push}
use Rattle.pe_solver.proofs.Walks.{leads_from}

lt_or_eq : (i n : ℕ) → i < n + 1 → (i < n) ⊎ (i ≡ n)
lt_or_eq i n h = grind arith

length_push : (xs : List ℕ) (x : ℕ) → length (xs ++ x ∷ []) ≡ length xs + 1
length_push xs x = length-append xs (x ∷ [])

pub halves : (n d z : ℕ) → d < n → z ≡ d + 1 → 2 ^ (n - d) ≡ 2 * 2 ^ (n - z)
halves n d z lt e = let k : n - d ≡ suc (n - z) = omega arith in rw k (pow-suc 2 (n - z) ∙ mul_comm (2 ^ (n - z)) 2)

pub prefix_push : (leaves prefix longer : List ℕ) (l : ℕ) → longer ≡ prefix ++ l ∷ [] → length prefix < length leaves → IsPrefix leaves prefix →
    (l ≡ get_or leaves (length prefix) 0) ⊎ (l ≡ complement_of (get_or leaves (length prefix) 0)) → IsPrefix leaves longer
prefix_push leaves prefix longer l g lt p o =
    rw g (record {
      count = omega (arith, length_push prefix l);
      of_leaf = λ i h.
          elim (lt_or_eq i (length prefix) (omega (arith, length_push prefix l))) [
            | inl less ↦ rw (get_or-append prefix (l ∷ []) 0 i less) (p.of_leaf i less)
            | inr same ↦ rw (same, get_or-append_seam prefix l [] 0) o
          ];
    })

-- each literal of the denial is a leaf's
pub has_map : (xs : List ℕ) (m : ℕ) → has (map complement_of xs) m ≡ true → (i : ℕ) × (i < length xs) × (complement_of (get_or xs i 0) ≡ m)
has_map [] m h = absurd (false_is_true false refl h)
has_map (x ∷ xs) m h = elim (or_cases (complement_of x == m) (has (map complement_of xs) m) h) [
  | inl e ↦ (zero, omega arith, eqb-true _ _ e)
  | inr r ↦ let q = has_map xs m r in (suc q.0, omega (arith, q.1), q.2)
]

pub denials_below : (vars : ℕ) (leaves prefix : List ℕ) → AreLeaves vars leaves → IsPrefix leaves prefix → IsBelow vars (denials prefix)
denials_below vars leaves prefix a p l h =
    let q = has_map prefix l h in
    let lt : q.0 < length leaves = omega (arith, q.1, p.count) in
    let b = a.below q.0 lt in
    subst (λ x. var_of x < vars) q.2
    (elim (p.of_leaf q.0 q.1) [
      | inl e ↦ rw e (complement_below _ vars b)
      | inr e ↦ rw (e, complement_twice) b
    ])

pub part_below : (vars : ℕ) (c d : List ℕ) → IsPart c d → IsBelow vars d → IsBelow vars c
part_below vars c d p b l h = b l (p l h)

two_pos : (k : ℕ) → 0 < 2 ^ k
two_pos zero = omega arith
two_pos (suc k) = let p = two_pos k in omega (arith, pow-suc 2 k)

pub kept_more : (was now : List Derived) (b n d z : ℕ) → d < n → z ≡ d + 1 → HasKept was now (n - z) b → HasKept was now (n - d) b
kept_more was now b n d z lt e k = record {
  count = omega (arith, halves n d z lt e, k.count);
  none_empty = k.none_empty;
  within = k.within;
}

pub kept_side : (was mid now : List Derived) (b n d z : ℕ) → d < n → z ≡ d + 1 → HasKept was mid (n - z) b → length now ≤ length mid + 1 → (NoneEmpty mid → NoneEmpty now) →
    length now ≤ b → HasKept was now (n - d) b
kept_side was mid now b n d z lt e k l f w = record {
  within = λ x. w;
  count = omega (arith, halves n d z lt e, k.count, two_pos (n - z), l);
  none_empty = λ x. f (k.none_empty x);
}

pub kept_both : (was mid side now : List Derived) (b n d z y : ℕ) → d < n → z ≡ d + 1 → y ≡ d + 1 → HasKept was mid (n - z) b → length side ≤ length mid + 1 → (NoneEmpty mid → NoneEmpty side) →
    length side ≤ b → HasKept side now (n - y) b → HasKept was now (n - d) b
kept_both was mid side now b n d z y lt e g k l f w j = record {
  within = λ x. j.within w;
  count = let q : 2 ^ (n - y) ≡ 2 ^ (n - z) = ap (λ x. 2 ^ (n - x)) (g ∙ sym e) in omega (arith, halves n d z lt e, k.count, j.count, q, l);
  none_empty = λ x. j.none_empty (f (k.none_empty x));
}

pub done_side : (was mid now : List Derived) (b n d z : ℕ) → d < n → z ≡ d + 1 → HasKept was mid (n - z) b → length now ≡ length mid + 1 → length now + 1 ≤ length was + 2 ^ (n - d)
done_side was mid now b n d z lt e k l = omega (arith, halves n d z lt e, k.count, two_pos (n - z), l)

pub done_more : (was now : List Derived) (b n d z : ℕ) → d < n → z ≡ d + 1 → length now + 1 ≤ length was + 2 ^ (n - z) → length now + 1 ≤ length was + 2 ^ (n - d)
done_more was now b n d z lt e k = omega (arith, halves n d z lt e, k)

pub done_both : (was mid side now : List Derived) (b n d z y : ℕ) → d < n → z ≡ d + 1 → y ≡ d + 1 → HasKept was mid (n - z) b → length side ≤ length mid + 1 →
    length now + 1 ≤ length side + 2 ^ (n - y) → length now + 1 ≤ length was + 2 ^ (n - d)
done_both was mid side now b n d z y lt e g k l j =
    let q : 2 ^ (n - y) ≡ 2 ^ (n - z) = ap (λ x. 2 ^ (n - x)) (g ∙ sym e) in omega (arith, halves n d z lt e, k.count, j, q, l)

pub kept_here : (was : List Derived) (m b : ℕ) → HasKept was was m b
kept_here was m b = record { count = omega (arith, two_pos m); none_empty = λ x. x; within = λ x. x }

pub length_longer : (prefix longer : List ℕ) (l : ℕ) → longer ≡ prefix ++ l ∷ [] → length longer ≡ length prefix + 1
length_longer prefix longer l g = ap length g ∙ length_push prefix l

pub apart_plain : (a b : ℕ) → is_negated a ≡ false → is_negated b ≡ false → complement_of a ≡ b → ⊥
apart_plain a b p q e = false_is_true _ q (ap is_negated (sym e) ∙ is_negated-complement_of a ∙ ap not p)

-- neither literal of the next leaf is in the denial
fresh : (vars : ℕ) (leaves prefix : List ℕ) (y : ℕ) → AreLeaves vars leaves → IsPrefix leaves prefix → length prefix < length leaves →
    (y ≡ get_or leaves (length prefix) 0) ⊎ (y ≡ complement_of (get_or leaves (length prefix) 0)) → has (denials prefix) y ≡ false
fresh vars leaves prefix y a p lt o = elim (true_or_false (has (denials prefix) y)) [
  | inr f ↦ f
  | inl t ↦
      let q = has_map prefix y t in
      let i = q.0 in
      let d = length prefix in
      let n = a.apart i d q.1 lt in
      let ei = a.plain i (omega (arith, q.1, lt)) in
      let ed = a.plain d lt in
      absurd (elim (p.of_leaf i q.1) [
        | inl e ↦ elim o [
          | inl g ↦ apart_plain (get_or leaves i 0) (get_or leaves d 0) ei ed (ap complement_of (sym e) ∙ q.2 ∙ g)
          | inr g ↦ n (sym (complement_twice _) ∙ ap complement_of (ap complement_of (sym e) ∙ q.2 ∙ g) ∙ complement_twice _)
        ]
        | inr e ↦ elim o [
          | inl g ↦ n (sym (complement_twice _) ∙ ap complement_of (sym e) ∙ q.2 ∙ g)
          | inr g ↦ apart_plain (get_or leaves d 0) (get_or leaves i 0) ed ei (sym g ∙ sym q.2 ∙ ap complement_of e ∙ complement_twice _)
        ]
      ])
]

denials_push : (prefix longer : List ℕ) (l : ℕ) → longer ≡ prefix ++ l ∷ [] → denials longer ≡ denials prefix ++ complement_of l ∷ []
denials_push prefix longer l g = ap denials g ∙ map-append complement_of prefix (l ∷ [])

in_longer : (prefix longer : List ℕ) (l m : ℕ) → longer ≡ prefix ++ l ∷ [] → has (denials longer) m ≡ true → (has (denials prefix) m ≡ true) ⊎ (complement_of l ≡ m)
in_longer prefix longer l m g h =
    elim (or_cases (has (denials prefix) m) (complement_of l == m) (sym (has_push (denials prefix) (complement_of l) m) ∙ ap (λ c. has c m) (sym (denials_push prefix longer l g)) ∙ h)) [
      | inl r ↦ inl r
      | inr e ↦ inr (eqb-true _ _ e)
    ]

-- the clause of the 0 side gives the leaf, and the hints of the 1 side go on from there
pub joined_leads : (vars : ℕ) (leaves prefix zero' one : List ℕ) (all before : List (List ℕ)) (more : List (List ℕ)) (id : ℕ) (c hints : List ℕ) (x nx : ℕ) →
    AreLeaves vars leaves → IsPrefix leaves prefix → length prefix < length leaves → x ≡ get_or leaves (length prefix) 0 → nx ≡ complement_of x →
    zero' ≡ prefix ++ nx ∷ [] → one ≡ prefix ++ x ∷ [] → all ≡ before ++ more → id < length before → IsPart (clause_at before id) (denials zero') →
    (Leads before (denied (denials prefix)) (id ∷ []) → ⊥) → Follows all c hints → IsPart c (denials one) →
    Leads all (denied (denials prefix)) (id ∷ hints)
joined_leads vars leaves prefix zero' one all before more id c hints x nx a p lt e ne gz go grow below part none follows part1 =
    let known = denied (denials prefix) in
    let kept = clause_at before id in
    let not_false : known (complement_of x) ≡ false = ap (has (denials prefix)) (complement_twice x) ∙ fresh vars leaves prefix x a p lt (inl e) in
    let not_true : known x ≡ false = fresh vars leaves prefix (complement_of x) a p lt (inr (ap complement_of e)) in
    let others : (m : ℕ) → has kept m ≡ true → m ≢ x → known (complement_of m) ≡ true =
    λ m h n. elim (in_longer prefix zero' nx m gz (part m h)) [
      | inl r ↦ ap (has (denials prefix)) (complement_twice m) ∙ r
      | inr q ↦ absurd (n (sym q ∙ ap complement_of ne ∙ complement_twice x))
    ] in
    let inside : has kept x ≡ true = elim (true_or_false (has kept x)) [
      | inl t ↦ t
      | inr f ↦ absurd (none (below, inl (λ m h. others m h (λ q. false_is_true _ f (ap (has kept) (sym q) ∙ h)))))
    ] in
    let same : clause_at all id ≡ kept = ap (λ cs. clause_at cs id) grow ∙ get_or-append before more [] id below in
    let unit : IsUnit known kept x = record { inside = inside; not_true = not_true; not_false = not_false; others = others } in
    let after : Leads all (learned x known) hints =
    leads_from all (denied c) (learned x known) hints (λ l h.
    elim (in_longer prefix one x (complement_of l) go (part1 (complement_of l) h)) [
      | inl r ↦ or_right (l == x) _ r
      | inr q ↦ or_left _ _ (eq-eqb l x (sym (complement_twice l) ∙ ap complement_of (sym q) ∙ complement_twice x))
    ]) follows in (
      subst (λ n. id < n) (sym (ap length grow ∙ length-append before more)) (omega arith),
      inr (inl (x, subst (λ d. IsUnit known d x) (sym same) unit, after)),
    )

pub grown_on : (a b c : List (List ℕ)) → IsGrown a b → IsGrown b c → IsGrown a c
grown_on a b c g h = (g.0 ++ h.0, h.1 ∙ ap (λ x. x ++ h.0) g.1 ∙ append_assoc a g.0 h.0)

pub is_none : (o : Option Finding) → ((x : Finding) → o ≡ Some x → ⊥) → o ≡ None
is_none None h = refl
is_none (Some x) h = absurd (h x refl)
