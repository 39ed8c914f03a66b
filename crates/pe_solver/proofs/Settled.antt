-- A walk through the clauses of gates gives each variable its value.
use Rattle.std.proofs.Common.{◌≡◌, ◌≢◌, ℕ, ◌+◌, ◌<◌, ◌≤◌, ◌==◌, ◌⊎◌, Bool, true, false, not, List, [], ◌∷◌, length, take, drop, refl, ap, sym, ◌∙◌, subst, arith, inl, inr, zero, suc, eq-eqb}
use Rattle.std.specs.List.{list_any}
use Rattle.std.proofs.lemmas.Bool.{eqb-true}
use Rattle.std.proofs.lemmas.List.{get_or-take, length-take}
use Rattle.pe_graph.specs.Literals.{var_of, is_negated, complement_of, lit_of}
use Rattle.pe_cnf.specs.Clause.{has, clause_at, literal_value, clause_value, Satisfies}
use Rattle.pe_cnf.specs.ClauseSet.{ClauseSet, leaf_var}
use Rattle.pe_cnf.specs.Gates.{gate_start, output_of, left_of, right_of, is_leaf, has_value, gate_count, ctx_of, a_of, b_of, IsGated}
use Rattle.pe_refute.specs.Follow.{learned, IsUnit, Gives}
use Rattle.pe_refute.specs.declared.follow.Effect.TheVariants.{Neither}
use Rattle.pe_solver.specs.Walk.{Within, Walks, BeginsWithAll}
use Rattle.pe_refute.proofs.Sight.{or_cases, or_left, or_right}
use Rattle.pe_refute.proofs.Walk.{false_is_true, drop_is}
use Rattle.pe_refute.proofs.ChainLaw.{true_or_false, true_from}
use Rattle.pe_solver.proofs.Literals.{complement_twice, complement_apart, own_or_not, complement_own, complement_not_own}

-- the literal has a value
abbrev pub Valued : (ℕ → Bool) → ℕ → Type 0
Valued k l = (k l ≡ true) ⊎ (k (complement_of l) ≡ true)

-- the variable has one
abbrev pub IsKnown : (ℕ → Bool) → ℕ → Type 0
IsKnown k y = (k (lit_of y false) ≡ true) ⊎ (k (lit_of y true) ≡ true)

-- no literal is known with its complement
abbrev pub IsConsistent : (ℕ → Bool) → Type 0
IsConsistent k = (l : ℕ) → k l ≡ true → k (complement_of l) ≡ true → ⊥

-- some literal of the clause is known
abbrev pub HasTrue : (ℕ → Bool) → List ℕ → Type 0
HasTrue k c = (m : ℕ) × (has c m ≡ true) × (k m ≡ true)

pub valued_known : (k : ℕ → Bool) (l : ℕ) → IsKnown k (var_of l) → Valued k l
valued_known k l v =
    let y = var_of l in
    elim (own_or_not l) [
      | inl e ↦ elim v [
        | inl a ↦ inl (ap k e ∙ a)
        | inr b ↦ inr (ap k (ap complement_of e ∙ complement_own y) ∙ b)
      ]
      | inr e ↦ elim v [
        | inl a ↦ inr (ap k (ap complement_of e ∙ complement_not_own y) ∙ a)
        | inr b ↦ inl (ap k e ∙ b)
      ]
    ]

pub known_valued : (k : ℕ → Bool) (l y : ℕ) → l ≡ lit_of y false → Valued k l → IsKnown k y
known_valued k l y e v = elim v [
  | inl a ↦ inl (ap k (sym e) ∙ a)
  | inr b ↦ inr (ap k (sym (complement_own y) ∙ ap complement_of (sym e)) ∙ b)
]

pub known_within : (j k : ℕ → Bool) (y : ℕ) → Within j k → IsKnown j y → IsKnown k y
known_within j k y w v = elim v [ inl a ↦ inl (w _ a) | inr b ↦ inr (w _ b) ]

pub valued_within : (j k : ℕ → Bool) (l : ℕ) → Within j k → Valued j l → Valued k l
valued_within j k l w v = elim v [ inl a ↦ inl (w _ a) | inr b ↦ inr (w _ b) ]

pub true_within : (j k : ℕ → Bool) (c : List ℕ) → Within j k → HasTrue j c → HasTrue k c
true_within j k c w t = (t.0, t.1, w t.0 t.2)

consistent_learned : (k : ℕ → Bool) (u : ℕ) → IsConsistent k → k u ≡ false → k (complement_of u) ≡ false → IsConsistent (learned u k)
consistent_learned k u s t f l a b = elim (or_cases (l == u) (k l) a) [
  | inl e ↦
      let same : l ≡ u = eqb-true l u e in
      elim (or_cases (complement_of l == u) (k (complement_of l)) b) [
        | inl g ↦ complement_apart l (eqb-true _ _ g ∙ sym same)
        | inr g ↦ false_is_true _ f (ap k (ap complement_of (sym same)) ∙ g)
      ]
  | inr p ↦ elim (or_cases (complement_of l == u) (k (complement_of l)) b) [
    | inl g ↦
        let back : complement_of u ≡ l = ap complement_of (sym (eqb-true _ _ g)) ∙ complement_twice l in
        false_is_true _ f (ap k back ∙ p)
    | inr g ↦ s l p g
  ]
]

-- what a walk knows after a clause: as before, or its unit too
pub record IsAfter (k next : ℕ → Bool) (c : List ℕ) : Type 0 where
  pub within : Within k next
  pub consistent : IsConsistent k → IsConsistent next
  pub settles : (l0 : ℕ) → ((l : ℕ) → has c l ≡ true → Valued k l ⊎ (l ≡ l0)) → HasTrue next c

some_known : (k : ℕ → Bool) (c : List ℕ) → list_any k c ≡ true → HasTrue k c
some_known k [] e = absurd (false_is_true false refl e)
some_known k (x ∷ c) e = elim (or_cases (k x) (list_any k c) e) [
  | inl t ↦ (x, or_left _ _ (eq-eqb x x refl), t)
  | inr f ↦ let r = some_known k c f in (r.0, or_right (x == r.0) _ r.1, r.2)
]

any_from : (k : ℕ → Bool) (c : List ℕ) (l : ℕ) → has c l ≡ true → k l ≡ true → list_any k c ≡ true
any_from k [] l h t = absurd (false_is_true false refl h)
any_from k (x ∷ c) l h t = elim (or_cases (x == l) (has c l) h) [
  | inl e ↦ or_left _ _ (ap k (eqb-true x l e) ∙ t)
  | inr r ↦ or_right (k x) _ (any_from k c l r t)
]

none_known : (k : ℕ → Bool) (c : List ℕ) (l : ℕ) → list_any k c ≡ false → has c l ≡ true → k l ≡ false
none_known k c l e h = elim (true_or_false (k l)) [
  | inr f ↦ f
  | inl t ↦ absurd (false_is_true _ e (any_from k c l h t))
]

not_from : (k : ℕ → Bool) (l : ℕ) → k l ≡ false → Valued k l → k (complement_of l) ≡ true
not_from k l f v = elim v [ inl t ↦ absurd (false_is_true _ f t) | inr t ↦ t ]

eq_or_not : (a b : ℕ) → (a ≡ b) ⊎ (a ≢ b)
eq_or_not a b = grind arith

neither_settles : (k : ℕ → Bool) (c : List ℕ) → Gives k c Neither → (l0 : ℕ) → ((l : ℕ) → has c l ≡ true → Valued k l ⊎ (l ≡ l0)) → HasTrue k c
neither_settles k c n l0 v = elim (true_or_false (list_any k c)) [
  | inl t ↦ some_known k c t
  | inr f ↦
      let off : (l : ℕ) → has c l ≡ true → k l ≡ false = λ l h. none_known k c l f h in
      let others : (l : ℕ) → has c l ≡ true → l ≢ l0 → k (complement_of l) ≡ true =
      λ l h ne. elim (v l h) [ inl a ↦ not_from k l (off l h) a | inr e ↦ absurd (ne e) ] in
      absurd (elim (true_or_false (k (complement_of l0))) [
        | inl g ↦ n.0 (λ l h. elim (eq_or_not l l0) [ inl e ↦ ap (λ x. k (complement_of x)) e ∙ g | inr ne ↦ others l h ne ])
        | inr g ↦ elim (true_or_false (has c l0)) [
          | inl h ↦ n.1 l0 (record { inside = h; not_true = off l0 h; not_false = g; others = others })
          | inr h ↦ n.0 (λ l q. others l q (λ e. false_is_true _ h (ap (has c) (sym e) ∙ q)))
        ]
      ])
]

after_neither : (k : ℕ → Bool) (c : List ℕ) → Gives k c Neither → IsAfter k k c
after_neither k c n = record { within = λ l t. t; consistent = λ s. s; settles = neither_settles k c n }

after_unit : (k : ℕ → Bool) (c : List ℕ) (u : ℕ) → IsUnit k c u → IsAfter k (learned u k) c
after_unit k c u s = record {
  within = λ l t. or_right (l == u) _ t;
  consistent = λ p. consistent_learned k u p s.not_true s.not_false;
  settles = λ l0 v. (u, s.inside, or_left _ _ (eq-eqb u u refl));
}

-- a walk over one hint
pub walk_step : (cs : List (List ℕ)) (k : ℕ → Bool) (h : ℕ) (hints : List ℕ) (end : ℕ → Bool) → h < length cs → Walks cs k (h ∷ hints) end →
    (next : ℕ → Bool) × IsAfter k next (clause_at cs h) × Walks cs next hints end
walk_step cs k h hints end lt w = elim w [
  | inl past ↦ absurd (omega (arith, past.0))
  | inr r ↦ elim r [
    | inl n ↦ (k, after_neither k _ n.0, n.1)
    | inr u ↦ (learned u.0 k, after_unit k _ u.0 u.1, u.2)
  ]
]

-- what is known at the end
pub walk_grows : (cs : List (List ℕ)) (k : ℕ → Bool) (hints : List ℕ) (end : ℕ → Bool) → Walks cs k hints end → Within k end
walk_grows cs k [] end w l t = w l ∙ t
walk_grows cs k (h ∷ hints) end w l t = elim w [
  | inl past ↦ walk_grows cs k hints end past.1 l t
  | inr r ↦ elim r [
    | inl n ↦ walk_grows cs k hints end n.1 l t
    | inr u ↦ walk_grows cs (learned u.0 k) hints end u.2 l (or_right (l == u.0) _ t)
  ]
]

consistent_same : (j k : ℕ → Bool) → ((l : ℕ) → k l ≡ j l) → IsConsistent j → IsConsistent k
consistent_same j k s c l a b = c l (sym (s l) ∙ a) (sym (s (complement_of l)) ∙ b)

pub walk_consistent : (cs : List (List ℕ)) (k : ℕ → Bool) (hints : List ℕ) (end : ℕ → Bool) → Walks cs k hints end → IsConsistent k → IsConsistent end
walk_consistent cs k [] end w s = consistent_same k end w s
walk_consistent cs k (h ∷ hints) end w s = elim w [
  | inl past ↦ walk_consistent cs k hints end past.1 s
  | inr r ↦ elim r [
    | inl n ↦ walk_consistent cs k hints end n.1 s
    | inr u ↦ walk_consistent cs (learned u.0 k) hints end u.2 (consistent_learned k u.0 s u.1.not_true u.1.not_false)
  ]
]

-- the clauses of a walk: those of a set, and more behind them
pub record IsOver (set : ClauseSet) (cs : List (List ℕ)) (hints : List ℕ) : Type 0 where
  pub gated : IsGated set
  pub longer : length set.clauses ≤ length cs
  pub same : (id : ℕ) → id < length set.clauses → clause_at cs id ≡ clause_at set.clauses id
  pub hints_are : BeginsWithAll (set.gates + 3) hints

-- one of the first clauses
over_step : (set : ClauseSet) (cs : List (List ℕ)) (hints : List ℕ) (k end : ℕ → Bool) (id : ℕ) → IsOver set cs hints → id < set.gates + 3 → Walks cs k (drop id hints) end →
    (next : ℕ → Bool) × IsAfter k next (clause_at set.clauses id) × Walks cs next (drop (id + 1) hints) end
over_step set cs hints k end id o lt w =
    let room = o.gated.room in
    let inside : id < length hints = omega (arith, o.hints_are.enough) in
    let below : id < length cs = omega (arith, o.longer, room) in
    let r = walk_step cs k id (drop (id + 1) hints) end below (subst (λ d. Walks cs k d end) (drop_is hints id id inside (o.hints_are.each id lt)) w) in
    (r.0, subst (λ c. IsAfter k r.0 c) (o.same id (omega (arith, room))) r.1, r.2)

-- what is known before the clauses of gate g
pub record IsSettled (set : ClauseSet) (g : ℕ) (k : ℕ → Bool) : Type 0 where
  pub consistent : IsConsistent k
  pub known : (y : ℕ) → has_value set.leaves set.clauses g y ≡ true → IsKnown k y
  pub holds : (id : ℕ) → id < gate_start g → HasTrue k (clause_at set.clauses id)

one_of : (x l : ℕ) → has (x ∷ []) l ≡ true → l ≡ x
one_of x l h = elim (or_cases (x == l) false h) [ inl e ↦ sym (eqb-true x l e) | inr f ↦ absurd (false_is_true false refl f) ]

one_of_two : (x y l : ℕ) → has (x ∷ y ∷ []) l ≡ true → (l ≡ x) ⊎ (l ≡ y)
one_of_two x y l h = elim (or_cases (x == l) _ h) [ inl e ↦ inl (sym (eqb-true x l e)) | inr f ↦ inr (one_of y l f) ]

one_of_three : (x y z l : ℕ) → has (x ∷ y ∷ z ∷ []) l ≡ true → (l ≡ x) ⊎ ((l ≡ y) ⊎ (l ≡ z))
one_of_three x y z l h = elim (or_cases (x == l) _ h) [ inl e ↦ inl (sym (eqb-true x l e)) | inr f ↦ inr (one_of_two y z l f) ]

leaf_known : (k : ℕ → Bool) (leaves : List (ℕ × ℕ)) (y : ℕ) → ((i : ℕ) → i < length leaves → IsKnown k (leaf_var leaves i)) → is_leaf leaves y ≡ true → IsKnown k y
leaf_known k [] y all h = absurd (false_is_true false refl h)
leaf_known k (leaf ∷ leaves) y all h = elim (or_cases (y == leaf.1) _ h) [
  | inl e ↦ subst (IsKnown k) (sym (eqb-true y leaf.1 e)) (all 0 (omega arith))
  | inr more ↦ leaf_known k leaves y (λ i lt. all (suc i) (omega arith)) more
]

-- the constant
settled_start : (set : ClauseSet) (cs : List (List ℕ)) (hints : List ℕ) (k end : ℕ → Bool) → IsOver set cs hints → IsConsistent k →
    ((i : ℕ) → i < length set.leaves → IsKnown k (leaf_var set.leaves i)) → Walks cs k hints end →
    (next : ℕ → Bool) × IsSettled set 0 next × Walks cs next (drop (gate_start 0) hints) end
settled_start set cs hints k end o s leaves w =
    let r = over_step set cs hints k end 0 o (omega arith) w in
    let c = o.gated.gates_are.constant in
    let t : HasTrue r.0 (0 ∷ []) = subst (HasTrue r.0) c (r.1.settles 0 (λ l h. inr (one_of 0 l (subst (λ d. has d l ≡ true) c h)))) in
    let zero_known : r.0 0 ≡ true = ap r.0 (sym (one_of 0 t.0 t.1)) ∙ t.2 in (
      r.0,
      record {
        consistent = r.1.consistent s;
        known = λ y h.
            elim (or_cases (y == 0) _ h) [
              | inl e ↦ inl (ap (λ z. r.0 (lit_of z false)) (eqb-true y 0 e) ∙ zero_known)
              | inr more ↦ elim (or_cases (is_leaf set.leaves y) false more) [
                | inl leaf ↦ known_within k r.0 y r.1.within (leaf_known k set.leaves y leaves leaf)
                | inr f ↦ absurd (false_is_true false refl f)
              ]
            ];
        holds = λ id lt. let z : id ≡ 0 = omega arith in subst (λ i. HasTrue r.0 (clause_at set.clauses i)) (sym z) (subst (HasTrue r.0) (sym c) t);
      },
      r.2,
    )

plain_lit : (x : ℕ) → is_negated x ≡ false → x ≡ lit_of (var_of x) false
plain_lit x p = grind arith

-- the output of a gate has a value after its three clauses
output_known : (k : ℕ → Bool) (x p q : ℕ) → IsConsistent k → HasTrue k (complement_of x ∷ p ∷ []) → HasTrue k (complement_of x ∷ q ∷ []) →
    HasTrue k (x ∷ complement_of p ∷ complement_of q ∷ []) → Valued k x
output_known k x p q s a b c = elim (one_of_two (complement_of x) p a.0 a.1) [
  | inl e ↦ inr (ap k (sym e) ∙ a.2)
  | inr ep ↦ elim (one_of_two (complement_of x) q b.0 b.1) [
    | inl e ↦ inr (ap k (sym e) ∙ b.2)
    | inr eq ↦ elim (one_of_three x (complement_of p) (complement_of q) c.0 c.1) [
      | inl e ↦ inl (ap k (sym e) ∙ c.2)
      | inr more ↦ elim more [
        | inl e ↦ absurd (s p (ap k (sym ep) ∙ a.2) (ap k (sym e) ∙ c.2))
        | inr e ↦ absurd (s q (ap k (sym eq) ∙ b.2) (ap k (sym e) ∙ c.2))
      ]
    ]
  ]
]

place : (id g : ℕ) → id < gate_start (suc g) → (id < gate_start g) ⊎ ((id ≡ gate_start g) ⊎ ((id ≡ gate_start g + 1) ⊎ (id ≡ gate_start g + 2)))
place id g h = grind arith

complement_valued : (k : ℕ → Bool) (l : ℕ) → Valued k l → Valued k (complement_of l)
complement_valued k l v = elim v [ inl a ↦ inr (ap k (complement_twice l) ∙ a) | inr b ↦ inl b ]

gate_value : (set : ClauseSet) (g : ℕ) (k next : ℕ → Bool) (y x : ℕ) → x ≡ output_of set.clauses g → Within k next →
    ((y : ℕ) → has_value set.leaves set.clauses g y ≡ true → IsKnown k y) → IsKnown next (var_of x) → has_value set.leaves set.clauses (suc g) y ≡ true → IsKnown next y
gate_value set g k next y x e all known out h = elim (or_cases (y == 0) _ h) [
  | inl z ↦ known_within k next y all (known y (or_left _ _ z))
  | inr more ↦ elim (or_cases (is_leaf set.leaves y) _ more) [
    | inl leaf ↦ known_within k next y all (known y (or_right (y == 0) _ (or_left _ _ leaf)))
    | inr rest ↦ elim (or_cases (y == var_of (output_of set.clauses g)) _ rest) [
      | inl own ↦ subst (IsKnown next) (ap var_of e ∙ sym (eqb-true _ _ own)) out
      | inr earlier ↦ known_within k next y all (known y (or_right (y == 0) _ (or_right (is_leaf set.leaves y) _ earlier)))
    ]
  ]
]

-- the clauses of one gate
settled_gate : (set : ClauseSet) (cs : List (List ℕ)) (hints : List ℕ) (g : ℕ) (k end : ℕ → Bool) → IsOver set cs hints → g < gate_count set → IsSettled set g k →
    Walks cs k (drop (gate_start g) hints) end → (next : ℕ → Bool) × IsSettled set (suc g) next × Walks cs next (drop (gate_start (suc g)) hints) end
settled_gate set cs hints g k end o lt s w =
    let gate = o.gated.gates_are.each g lt in
    let x = output_of set.clauses g in
    let p = left_of set.clauses g in
    let q = right_of set.clauses g in
    let count = o.gated.count in
    let r1 = over_step set cs hints k end (gate_start g) o (omega arith) w in
    let r2 = over_step set cs hints r1.0 end (gate_start g + 1) o (omega arith) r1.2 in
    let at2 : (gate_start g + 1) + 1 ≡ gate_start g + 2 = omega arith in
    let r3 = over_step set cs hints r2.0 end (gate_start g + 2) o (omega arith) (subst (λ n. Walks cs r2.0 (drop n hints) end) at2 r2.2) in
    let next = r3.0 in
    let vp : Valued k p = valued_known k p (s.known (var_of p) gate.left_known) in
    let vq : Valued k q = valued_known k q (s.known (var_of q) gate.right_known) in
    let vq1 : Valued r1.0 q = valued_within k r1.0 q r1.1.within vq in
    let to2 : Within k r2.0 = λ l t. r2.1.within l (r1.1.within l t) in
    let all : Within k next = λ l t. r3.1.within l (to2 l t) in
    let vp2 : Valued r2.0 (complement_of p) = complement_valued r2.0 p (valued_within k r2.0 p to2 vp) in
    let vq2 : Valued r2.0 (complement_of q) = complement_valued r2.0 q (valued_within k r2.0 q to2 vq) in
    let t1 : HasTrue r1.0 (complement_of x ∷ p ∷ []) =
    subst (HasTrue r1.0) gate.first (r1.1.settles (complement_of x) (λ l h.
    elim (one_of_two _ _ l (subst (λ d. has d l ≡ true) gate.first h)) [ inl e ↦ inr e | inr e ↦ inl (subst (Valued k) (sym e) vp) ])) in
    let t2 : HasTrue r2.0 (complement_of x ∷ q ∷ []) =
    subst (HasTrue r2.0) gate.second (r2.1.settles (complement_of x) (λ l h.
    elim (one_of_two _ _ l (subst (λ d. has d l ≡ true) gate.second h)) [ inl e ↦ inr e | inr e ↦ inl (subst (Valued r1.0) (sym e) vq1) ])) in
    let t3 : HasTrue next (x ∷ complement_of p ∷ complement_of q ∷ []) =
    subst (HasTrue next) gate.third (r3.1.settles x (λ l h.
    elim (one_of_three _ _ _ l (subst (λ d. has d l ≡ true) gate.third h)) [
      | inl e ↦ inr e
      | inr more ↦ elim more [ inl e ↦ inl (subst (Valued r2.0) (sym e) vp2) | inr e ↦ inl (subst (Valued r2.0) (sym e) vq2) ]
    ])) in
    let n1 : HasTrue next (complement_of x ∷ p ∷ []) = true_within r1.0 next (complement_of x ∷ p ∷ []) (λ l t. r3.1.within l (r2.1.within l t)) t1 in
    let n2 : HasTrue next (complement_of x ∷ q ∷ []) = true_within r2.0 next (complement_of x ∷ q ∷ []) r3.1.within t2 in
    let consistent : IsConsistent next = r3.1.consistent (r2.1.consistent (r1.1.consistent s.consistent)) in
    let out : IsKnown next (var_of x) = known_valued next x (var_of x) (plain_lit x gate.plain) (output_known next x p q consistent n1 n2 t3) in
    let at3 : (gate_start g + 2) + 1 ≡ gate_start (suc g) = omega arith in (
      next,
      record {
        consistent = consistent;
        known = λ y h. gate_value set g k next y x refl all s.known out h;
        holds = λ id b.
            elim (place id g b) [
              | inl less ↦ true_within k next _ all (s.holds id less)
              | inr more ↦ elim more [
                | inl e ↦ subst (HasTrue next) (sym (ap (clause_at set.clauses) e ∙ gate.first)) n1
                | inr rest ↦ elim rest [
                  | inl e ↦ subst (HasTrue next) (sym (ap (clause_at set.clauses) e ∙ gate.second)) n2
                  | inr e ↦ subst (HasTrue next) (sym (ap (clause_at set.clauses) e ∙ gate.third)) t3
                ]
              ]
            ];
      },
      subst (λ n. Walks cs next (drop n hints) end) at3 r3.2,
    )

-- the clauses of all gates
settled_gates : (set : ClauseSet) (cs : List (List ℕ)) (hints : List ℕ) (g : ℕ) (k end : ℕ → Bool) → IsOver set cs hints → g ≤ gate_count set → IsConsistent k →
    ((i : ℕ) → i < length set.leaves → IsKnown k (leaf_var set.leaves i)) → Walks cs k hints end →
    (next : ℕ → Bool) × IsSettled set g next × Walks cs next (drop (gate_start g) hints) end
settled_gates set cs hints zero k end o le s leaves w = settled_start set cs hints k end o s leaves w
settled_gates set cs hints (suc g) k end o le s leaves w =
    let r = settled_gates set cs hints g k end o (omega arith) s leaves w in
    settled_gate set cs hints g r.0 end o (omega arith) r.1 r.2

-- the values that are known
abbrev pub values_of : (ℕ → Bool) → ℕ → Bool
values_of k y = k (lit_of y false)

pub own_sign : (y : ℕ) → is_negated (lit_of y false) ≡ false
own_sign y = grind arith

pub own_var : (y : ℕ) → var_of (lit_of y false) ≡ y
own_var y = omega arith

other_sign : (y : ℕ) → is_negated (lit_of y true) ≡ true
other_sign y = grind arith

other_var : (y : ℕ) → var_of (lit_of y true) ≡ y
other_var y = omega arith

own_value : (k : ℕ → Bool) (l y : ℕ) → l ≡ lit_of y false → literal_value (values_of k) l ≡ k (lit_of y false)
own_value k l y e = rw (e, own_sign y, own_var y) refl

other_value : (k : ℕ → Bool) (l y : ℕ) → l ≡ lit_of y true → literal_value (values_of k) l ≡ not (k (lit_of y false))
other_value k l y e = rw (e, other_sign y, other_var y) refl

pub known_true : (k : ℕ → Bool) (l : ℕ) → IsConsistent k → k l ≡ true → literal_value (values_of k) l ≡ true
known_true k l s t =
    let y = var_of l in
    elim (own_or_not l) [
      | inl e ↦ own_value k l y e ∙ ap k (sym e) ∙ t
      | inr e ↦
          let own : k (lit_of y false) ≡ false = elim (true_or_false (k (lit_of y false))) [
            | inr f ↦ f
            | inl g ↦ absurd (s l t (ap k (ap complement_of e ∙ complement_not_own y) ∙ g))
          ] in
          other_value k l y e ∙ ap not own
    ]

pub holds_true : (k : ℕ → Bool) (c : List ℕ) → IsConsistent k → HasTrue k c → clause_value (values_of k) c ≡ true
holds_true k c s t = true_from (values_of k) c t.0 t.1 (known_true k t.0 s t.2)

last_place : (n id : ℕ) → id < n + 3 → (id < n) ⊎ ((id ≡ n) ⊎ ((id ≡ n + 1) ⊎ (id ≡ n + 2)))
last_place n id h = grind arith

-- a clause of known variables
all_valued : (k : ℕ → Bool) (c d : List ℕ) (l0 : ℕ) → c ≡ d → ((l : ℕ) → has d l ≡ true → Valued k l) → (l : ℕ) → has c l ≡ true → Valued k l ⊎ (l ≡ l0)
all_valued k c d l0 e v l h = inl (v l (subst (λ x. has x l ≡ true) e h))

lt_take : (cs : List (List ℕ)) (n id : ℕ) → id < length (take n cs) → id < n
lt_take cs n id h = omega (arith, length-take n cs)

-- where a walk along all clauses meets no conflict, what it knows makes the clauses of the question true
pub walk_satisfies : (set : ClauseSet) (cs : List (List ℕ)) (hints : List ℕ) (k end : ℕ → Bool) → IsOver set cs hints → IsConsistent k →
    ((i : ℕ) → i < length set.leaves → IsKnown k (leaf_var set.leaves i)) → Walks cs k hints end → Satisfies (values_of end) (take (set.gates + 3) set.clauses)
walk_satisfies set cs hints k end o s leaves w id lt =
    let gated = o.gated in
    let n = gate_count set in
    let r = settled_gates set cs hints n k end o (omega arith) s leaves w in
    let w0 : Walks cs r.0 (drop set.gates hints) end = subst (λ m. Walks cs r.0 (drop m hints) end) (sym gated.count) r.2 in
    let v : (l : ℕ) → has_value set.leaves set.clauses n (var_of l) ≡ true → Valued r.0 l = λ l h. valued_known r.0 l (r.1.known (var_of l) h) in
    let r1 = over_step set cs hints r.0 end set.gates o (omega arith) w0 in
    let r2 = over_step set cs hints r1.0 end (set.gates + 1) o (omega arith) r1.2 in
    let at2 : (set.gates + 1) + 1 ≡ set.gates + 2 = omega arith in
    let r3 = over_step set cs hints r2.0 end (set.gates + 2) o (omega arith) (subst (λ m. Walks cs r2.0 (drop m hints) end) at2 r2.2) in
    let e3 : Within r3.0 end = walk_grows cs r3.0 _ end r3.2 in
    let e2 : Within r2.0 end = λ l t. e3 l (r3.1.within l t) in
    let e1 : Within r1.0 end = λ l t. e2 l (r2.1.within l t) in
    let e0 : Within r.0 end = λ l t. e1 l (r1.1.within l t) in
    let va = v (a_of set) gated.a_known in
    let vb = v (b_of set) gated.b_known in
    let to2 : Within r.0 r2.0 = λ l t. r2.1.within l (r1.1.within l t) in
    let t1 = r1.1.settles 0 (all_valued r.0 _ _ 0 gated.ctx (λ l h. subst (Valued r.0) (sym (one_of (ctx_of set) l h)) (v (ctx_of set) gated.ctx_known))) in
    let t2 = r2.1.settles 0 (all_valued r1.0 _ _ 0 gated.differ (λ l h. elim (one_of_two (a_of set) (b_of set) l h) [
      | inl e ↦ subst (Valued r1.0) (sym e) (valued_within r.0 r1.0 (a_of set) r1.1.within va)
      | inr e ↦ subst (Valued r1.0) (sym e) (valued_within r.0 r1.0 (b_of set) r1.1.within vb)
    ])) in
    let t3 = r3.1.settles 0 (all_valued r2.0 _ _ 0 gated.differ_not (λ l h. elim (one_of_two (complement_of (a_of set)) (complement_of (b_of set)) l h) [
      | inl e ↦ subst (Valued r2.0) (sym e) (complement_valued r2.0 (a_of set) (valued_within r.0 r2.0 (a_of set) to2 va))
      | inr e ↦ subst (Valued r2.0) (sym e) (complement_valued r2.0 (b_of set) (valued_within r.0 r2.0 (b_of set) to2 vb))
    ])) in
    let consistent = walk_consistent cs k hints end w s in
    let less = lt_take set.clauses (set.gates + 3) id lt in
    let holds : HasTrue end (clause_at set.clauses id) = elim (last_place set.gates id less) [
      | inl front ↦ true_within r.0 end _ e0 (r.1.holds id (subst (λ m. id < m) gated.count front))
      | inr more ↦ elim more [
        | inl e ↦ subst (λ i. HasTrue end (clause_at set.clauses i)) (sym e) (true_within r1.0 end _ e1 t1)
        | inr rest ↦ elim rest [
          | inl e ↦ subst (λ i. HasTrue end (clause_at set.clauses i)) (sym e) (true_within r2.0 end _ e2 t2)
          | inr e ↦ subst (λ i. HasTrue end (clause_at set.clauses i)) (sym e) (true_within r3.0 end _ e3 t3)
        ]
      ]
    ] in
    ap (clause_value (values_of end)) (get_or-take (set.gates + 3) set.clauses id [] less) ∙ holds_true end _ consistent holds
