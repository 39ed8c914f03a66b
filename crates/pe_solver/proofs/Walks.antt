-- Walks as far as a conflict, past what gives nothing new.
use Rattle.std.proofs.Common.{◌≡◌, ◌≢◌, ℕ, ◌+◌, ◌<◌, ◌≤◌, ◌==◌, ◌||◌, Bool, true, false, List, [], ◌∷◌, ◌++◌, length, get_or, take, drop, refl, ap, sym, ◌∙◌, subst, arith, inl, inr, zero, suc, ◌⊎◌, length-append}
use Rattle.std.proofs.Math.Seq.{take-append_seam, get_or-append_seam}
use Rattle.std.proofs.Math.ListN.{get_or-append}
use Rattle.std.proofs.lemmas.List.{take-append-le}
use Rattle.std.proofs.lemmas.Bool.{eqb-true}
use Rattle.pe_graph.specs.Literals.{complement_of}
use Rattle.pe_cnf.specs.Clause.{clause_at}
use Rattle.pe_refute.specs.Follow.{learned, IsConflict, IsUnit, Gives, Propagates}
use Rattle.pe_refute.specs.declared.follow.Effect.TheVariants.{Neither}
use Rattle.pe_solver.specs.Walk.{Within, Leads, Walks, after, GivesUnits}
use Rattle.pe_refute.proofs.Sight.{unit_is, or_cases, or_left, or_right}
use Rattle.pe_refute.proofs.Walk.{Same, false_is_true, unit_no_conflict, unit_same, conflict_same, learned_same, drop_is}
use Rattle.pe_refute.proofs.ChainLaw.{true_or_false}

pub after_push : (us : List ℕ) (u : ℕ) (k : ℕ → Bool) → after (us ++ u ∷ []) k ≡ learned u (after us k)
after_push [] u k = refl
after_push (v ∷ us) u k = after_push us u (learned v k)

lt_or_eq : (i n : ℕ) → i < n + 1 → (i < n) ⊎ (i ≡ n)
lt_or_eq i n h = grind arith

-- one more step
pub gives_push : (cs : List (List ℕ)) (k : ℕ → Bool) (hs us : List ℕ) (h u : ℕ) → length hs ≡ length us → GivesUnits cs k hs us →
    IsUnit (after us k) (clause_at cs h) u → GivesUnits cs k (hs ++ h ∷ []) (us ++ u ∷ [])
gives_push cs k hs us h u e g s i lt =
    let n : i < length us + 1 = omega (arith, length-append us (u ∷ []), lt) in
    elim (lt_or_eq i (length us) n) [
      | inl less ↦
          let a : take i (us ++ u ∷ []) ≡ take i us = take-append-le i us (u ∷ []) (omega arith) in
          let b : get_or (hs ++ h ∷ []) i 0 ≡ get_or hs i 0 = get_or-append hs (h ∷ []) 0 i (omega arith) in
          let c : get_or (us ++ u ∷ []) i 0 ≡ get_or us i 0 = get_or-append us (u ∷ []) 0 i less in
          rw (a, b, c) (g i less)
      | inr same ↦
          let a : take i (us ++ u ∷ []) ≡ us = ap (λ j. take j (us ++ u ∷ [])) same ∙ take-append_seam us (u ∷ []) in
          let b : get_or (hs ++ h ∷ []) i 0 ≡ h = ap (λ j. get_or (hs ++ h ∷ []) j 0) (same ∙ sym e) ∙ get_or-append_seam hs h [] 0 in
          let c : get_or (us ++ u ∷ []) i 0 ≡ u = ap (λ j. get_or (us ++ u ∷ []) j 0) same ∙ get_or-append_seam us u [] 0 in
          rw (a, b, c) s
    ]

conflict_within : (j k : ℕ → Bool) (c : List ℕ) → Within j k → IsConflict j c → IsConflict k c
conflict_within j k c w s = λ l h. w (complement_of l) (s l h)

eq_or_not : (a b : ℕ) → (a ≡ b) ⊎ (a ≢ b)
eq_or_not a b = grind arith

within_true : (j k : ℕ → Bool) (l : ℕ) → Within j k → k l ≡ true → Within (learned l j) k
within_true j k l w t m q = elim (or_cases (m == l) (j m) q) [ inl e ↦ ap k (eqb-true m l e) ∙ t | inr r ↦ w m r ]

within_learned : (j k : ℕ → Bool) (l : ℕ) → Within j k → Within (learned l j) (learned l k)
within_learned j k l w m q = elim (or_cases (m == l) (j m) q) [ inl e ↦ or_left _ _ e | inr r ↦ or_right (m == l) _ (w m r) ]

-- a hint that gives nothing new is passed over
pub leads_neither : (cs : List (List ℕ)) (k : ℕ → Bool) (h : ℕ) (hints c : List ℕ) → c ≡ clause_at cs h → Gives k c Neither → Leads cs k (h ∷ hints) → Leads cs k hints
leads_neither cs k h hints c e s p =
    let n = subst (λ d. Gives k d Neither) e s in
    elim (p.1) [
      | inl q ↦ absurd (n.0 q)
      | inr r ↦ elim r [ inl u ↦ absurd (n.1 u.0 u.1) | inr q ↦ q.1 ]
    ]

pub leads_past : (cs : List (List ℕ)) (k : ℕ → Bool) (h : ℕ) (hints : List ℕ) → length cs ≤ h → Leads cs k (h ∷ hints) → ⊥
leads_past cs k h hints le p = omega (arith, p.0)

pub leads_unit : (cs : List (List ℕ)) (k : ℕ → Bool) (h u : ℕ) (hints c : List ℕ) → c ≡ clause_at cs h → IsUnit k c u → Leads cs k (h ∷ hints) → Leads cs (learned u k) hints
leads_unit cs k h u hints c e s p =
    let t = subst (λ d. IsUnit k d u) e s in
    elim (p.1) [
      | inl q ↦ absurd (unit_no_conflict k _ u t q)
      | inr r ↦ elim r [
        | inl v ↦ subst (λ x. Leads cs (learned x k) hints) (sym (unit_is k _ u v.0 t.inside t.not_false v.1)) v.2
        | inr q ↦ absurd (q.0.1 u t)
      ]
    ]

gives_same : (j k : ℕ → Bool) (c : List ℕ) → Same j k → Gives j c Neither → Gives k c Neither
gives_same j k c s n =
    (λ q. n.0 (conflict_same k j c (λ l. sym (s l)) q), λ l u. n.1 l (unit_same k j c l (λ m. sym (s m)) u))

pub leads_same : (cs : List (List ℕ)) (j k : ℕ → Bool) (hints : List ℕ) → Same j k → Leads cs j hints → Leads cs k hints
leads_same cs j k [] s p = p
leads_same cs j k (h ∷ hints) s p = (
  p.0,
  elim (p.1) [
    | inl q ↦ inl (conflict_same j k _ s q)
    | inr r ↦ inr (elim r [
      | inl u ↦ inl (u.0, unit_same j k _ u.0 s u.1, leads_same cs (learned u.0 j) (learned u.0 k) hints (learned_same j k u.0 s) u.2)
      | inr q ↦ inr (gives_same j k _ s q.0, leads_same cs j k hints s q.1)
    ])
  ],
)

-- where less leads to a conflict, more does too
pub leads_from : (cs : List (List ℕ)) (j k : ℕ → Bool) (hints : List ℕ) → Within j k → Propagates cs j hints → Leads cs k hints
leads_from cs j k [] w p = p
leads_from cs j k (h ∷ []) w p = (p.0, inl (conflict_within j k _ w p.1))
leads_from cs j k (h ∷ i ∷ hints) w p =
    let l = p.1.0 in
    let u = p.1.1 in (
      p.0,
      elim (true_or_false (k l)) [
        | inl t ↦ elim (true_or_false (k (complement_of l))) [
          | inl g ↦ inl (λ m q. elim (eq_or_not m l) [ inl e ↦ subst (λ x. k (complement_of x) ≡ true) (sym e) g | inr n ↦ w _ (u.others m q n) ])
          | inr g ↦ inr (inr (
            (
              (λ s. false_is_true _ g (s l u.inside)),
              (λ x v. false_is_true (k l) (subst (λ y. k y ≡ false) (sym (unit_is k _ l x u.inside g v)) v.not_true) t),
            ),
            leads_from cs (learned l j) k (i ∷ hints) (within_true j k l w t) p.1.2,
          ))
        ]
        | inr f ↦ elim (true_or_false (k (complement_of l))) [
          | inl g ↦ inl (λ m q. elim (eq_or_not m l) [ inl e ↦ subst (λ x. k (complement_of x) ≡ true) (sym e) g | inr n ↦ w _ (u.others m q n) ])
          | inr g ↦ inr (inl (
            l,
            record { inside = u.inside; not_true = f; not_false = g; others = λ m q x. w _ (u.others m q x) },
            leads_from cs (learned l j) (learned l k) (i ∷ hints) (within_learned j k l w) p.1.2,
          ))
        ]
      ],
    )

drop_past : (xs : List ℕ) (n : ℕ) → length xs ≤ n → drop n xs ≡ []
drop_past [] zero h = refl
drop_past [] (suc n) h = refl
drop_past (x ∷ xs) zero h = absurd (omega arith)
drop_past (x ∷ xs) (suc n) h = drop_past xs n (omega arith)

pub walks_same : (cs : List (List ℕ)) (j k : ℕ → Bool) (hints : List ℕ) (end : ℕ → Bool) → Same j k → Walks cs j hints end → Walks cs k hints end
walks_same cs j k [] end s p = λ l. p l ∙ s l
walks_same cs j k (h ∷ hints) end s p = elim p [
  | inl past ↦ inl (past.0, walks_same cs j k hints end s past.1)
  | inr r ↦ inr (elim r [
    | inl q ↦ inl (gives_same j k _ s q.0, walks_same cs j k hints end s q.1)
    | inr u ↦ inr (u.0, unit_same j k _ u.0 s u.1, walks_same cs (learned u.0 j) (learned u.0 k) hints end (learned_same j k u.0 s) u.2)
  ])
]

-- a walk so far along the first n hints
pub record WalkedTo (cs : List (List ℕ)) (k : ℕ → Bool) (hints : List ℕ) (n : ℕ) (hs us : List ℕ) (now : ℕ → Bool) : Type 0 where
  pub pairs : length hs ≡ length us
  pub below : (i : ℕ) → i < length hs → get_or hs i 0 < length cs
  pub units : GivesUnits cs k hs us
  pub known : Same now (after us k)
  pub leads : Leads cs k hints → Leads cs now (drop n hints)
  pub walks : (end : ℕ → Bool) → Walks cs now (drop n hints) end → Walks cs k hints end

pub walked_none : (cs : List (List ℕ)) (k : ℕ → Bool) (hints : List ℕ) → WalkedTo cs k hints 0 [] [] k
walked_none cs k hints = record {
  pairs = refl;
  below = λ i h. absurd (omega arith);
  units = λ i h. absurd (omega arith);
  known = λ l. refl;
  leads = λ p. p;
  walks = λ end p. p;
}

pub walked_past : (cs : List (List ℕ)) (k : ℕ → Bool) (hints : List ℕ) (n h : ℕ) (hs us : List ℕ) (now : ℕ → Bool) → n < length hints → get_or hints n 0 ≡ h →
    length cs ≤ h → WalkedTo cs k hints n hs us now → WalkedTo cs k hints (n + 1) hs us now
walked_past cs k hints n h hs us now lt e le w = record {
  pairs = w.pairs;
  below = w.below;
  units = w.units;
  known = w.known;
  leads = λ p. absurd (leads_past cs now h (drop (n + 1) hints) le (subst (Leads cs now) (drop_is hints n h lt e) (w.leads p)));
  walks = λ end p. w.walks end (subst (λ d. Walks cs now d end) (sym (drop_is hints n h lt e)) (inl (le, p)));
}

pub walked_neither : (cs : List (List ℕ)) (k : ℕ → Bool) (hints : List ℕ) (n h : ℕ) (hs us : List ℕ) (now : ℕ → Bool) (c : List ℕ) → n < length hints → get_or hints n 0 ≡ h →
    c ≡ clause_at cs h → Gives now c Neither → WalkedTo cs k hints n hs us now → WalkedTo cs k hints (n + 1) hs us now
walked_neither cs k hints n h hs us now c lt e f s w = record {
  pairs = w.pairs;
  below = w.below;
  units = w.units;
  known = w.known;
  leads = λ p. leads_neither cs now h (drop (n + 1) hints) c f s (subst (Leads cs now) (drop_is hints n h lt e) (w.leads p));
  walks = λ end p. w.walks end (subst (λ d. Walks cs now d end) (sym (drop_is hints n h lt e)) (inr (inl (subst (λ d. Gives now d Neither) f s, p))));
}

length_push : (xs : List ℕ) (x : ℕ) → length (xs ++ x ∷ []) ≡ length xs + 1
length_push xs x = length-append xs (x ∷ [])

below_push : (cs : List (List ℕ)) (hs : List ℕ) (h : ℕ) → ((i : ℕ) → i < length hs → get_or hs i 0 < length cs) → h < length cs →
    (i : ℕ) → i < length (hs ++ h ∷ []) → get_or (hs ++ h ∷ []) i 0 < length cs
below_push cs hs h b lt i k =
    let n : i < length hs + 1 = omega (arith, length_push hs h, k) in
    elim (lt_or_eq i (length hs) n) [
      | inl less ↦ rw (get_or-append hs (h ∷ []) 0 i less) (b i less)
      | inr same ↦ rw (same, get_or-append_seam hs h [] 0) lt
    ]

pub walked_unit : (cs : List (List ℕ)) (k : ℕ → Bool) (hints : List ℕ) (n h u : ℕ) (hs us : List ℕ) (now next : ℕ → Bool) (c : List ℕ) → n < length hints → get_or hints n 0 ≡ h →
    h < length cs → c ≡ clause_at cs h → IsUnit now c u → Same next (learned u now) → WalkedTo cs k hints n hs us now →
    WalkedTo cs k hints (n + 1) (hs ++ h ∷ []) (us ++ u ∷ []) next
walked_unit cs k hints n h u hs us now next c lt e below f s next_is w = record {
  pairs = length_push hs h ∙ ap (λ x. x + 1) w.pairs ∙ sym (length_push us u);
  below = below_push cs hs h w.below below;
  units = gives_push cs k hs us h u w.pairs w.units (unit_same now (after us k) _ u w.known (subst (λ d. IsUnit now d u) f s));
  known = λ l. next_is l ∙ ap (λ b. (l == u) || b) (w.known l) ∙ ap (λ g. g l) (sym (after_push us u k));
  leads = λ p. leads_same cs (learned u now) next _ (λ l. sym (next_is l))
      (leads_unit cs now h u (drop (n + 1) hints) c f s (subst (Leads cs now) (drop_is hints n h lt e) (w.leads p)));
  walks = λ end p.
      w.walks end (subst (λ d. Walks cs now d end) (sym (drop_is hints n h lt e))
      (inr (inr (u, subst (λ d. IsUnit now d u) f s, walks_same cs next (learned u now) (drop (n + 1) hints) end next_is p))));
}

pub walked_end : (cs : List (List ℕ)) (k : ℕ → Bool) (hints : List ℕ) (n : ℕ) (hs us : List ℕ) (now : ℕ → Bool) → length hints ≤ n → WalkedTo cs k hints n hs us now → Leads cs k hints → ⊥
walked_end cs k hints n hs us now le w p =
    subst (Leads cs now) (drop_past hints n le) (w.leads p)

-- and what is known at its end
pub walked_through : (cs : List (List ℕ)) (k : ℕ → Bool) (hints : List ℕ) (n : ℕ) (hs us : List ℕ) (now : ℕ → Bool) → length hints ≤ n → WalkedTo cs k hints n hs us now → Walks cs k hints now
walked_through cs k hints n hs us now le w =
    w.walks now (subst (λ d. Walks cs now d now) (sym (drop_past hints n le)) (λ l. refl))
