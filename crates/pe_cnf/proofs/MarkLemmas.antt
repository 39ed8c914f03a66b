-- Marks that spread, and numbers of nodes.
use Rattle.std.proofs.Common.{◌≡◌, ℕ, zero, suc, ◌+◌, ◌<◌, ◌≤◌, ◌==◌, ◌||◌, ◌↔◌, ◌⊎◌, Bool, true, false, List, [], ◌∷◌, length, get_or, take, refl, sym, ap, ◌∙◌, subst, arith, inl, inr, eq-eqb}
use Rattle.std.specs.Prelude.{replicate}
use Rattle.std.proofs.lemmas.Bool.{eqb-true}
use Rattle.std.proofs.lemmas.List.Folds.{list_any_more}
use Rattle.pe_graph.specs.declared.graph.Node.{Node}
use Rattle.pe_graph.specs.declared.graph.Node.TheVariants.{True, Leaf, And}
use Rattle.pe_graph.specs.Literals.{var_of}
use Rattle.pe_graph.specs.Nodes.{node_at, AreBelow}
use Rattle.pe_graph.specs.declared.job.Goal.{Goal}
use Rattle.pe_cnf.specs.declared.equality.Equality.{Equality}
use Rattle.pe_cnf.specs.Cone.{Reaches, here, left, right, InCone, cites, used_before}
use Rattle.pe_cnf.specs.Marks.{mark_of, names, Spreads}

-- cases of a disjunction
pub or_cases : (a b : Bool) → (a || b) ≡ true → (a ≡ true) ⊎ (b ≡ true)
or_cases true b h = inl refl
or_cases false b h = inr h

pub or_left : (a b : Bool) → a ≡ true → (a || b) ≡ true
or_left a b h = rw h refl

pub or_right : (a b : Bool) → b ≡ true → (a || b) ≡ true
or_right true b h = refl
or_right false b h = h

pub true_or_false : (b : Bool) → (b ≡ true) ⊎ (b ≡ false)
true_or_false true = inl refl
true_or_false false = inr refl

pub not_both : (b : Bool) → b ≡ true → b ≡ false → ⊥
not_both b p q = cc

pub below_or_at : (i y : ℕ) → i ≤ y → (y ≡ i) ⊎ (i + 1 ≤ y)
below_or_at i y h = grind arith

-- no gate stands past the end
pub no_gate_past : (nodes : List Node) (y p q : ℕ) → length nodes ≤ y → node_at nodes y ≡ And p q → ⊥
no_gate_past [] y p q h e = cc
no_gate_past (n ∷ nodes) zero p q h e = absurd (omega arith)
no_gate_past (n ∷ nodes) (suc y) p q h e = no_gate_past nodes y p q (omega arith) e

pub spread_none : (nodes : List Node) (n : ℕ) (m : ℕ → Bool) → n ≡ length nodes → Spreads nodes n m m
spread_none nodes n m e = record {
  kept = λ y h. h;
  reached = λ y h. (y, h, here);
  closed = λ y p q le h is. absurd (no_gate_past nodes y p q (omega arith) is);
}

-- a node that is not marked
pub spread_skip : (nodes : List Node) (i n : ℕ) (old new : ℕ → Bool) → n ≡ i + 1 → new i ≡ false → Spreads nodes n old new → Spreads nodes i old new
spread_skip nodes i n old new e f s = record {
  kept = s.kept;
  reached = s.reached;
  closed = λ y p q le h is.
      elim (below_or_at i y le) [
        | inl at ↦ absurd (not_both (new y) h (ap new at ∙ f))
        | inr past ↦ s.closed y p q (omega arith) h is
      ];
}

-- what a gate names is marked
names_left : (node : Node) (p q : ℕ) → node ≡ And p q → names node (var_of p) ≡ true
names_left node p q e = rw e (or_left _ _ (eq-eqb (var_of p) (var_of p) refl))

names_right : (node : Node) (p q : ℕ) → node ≡ And p q → names node (var_of q) ≡ true
names_right node p q e = rw e (or_right (var_of q == var_of p) _ (eq-eqb (var_of q) (var_of q) refl))

-- a node that is named is reached
names_reach : (nodes : List Node) (z i y : ℕ) (node : Node) → node_at nodes i ≡ node → Reaches nodes z i → names node y ≡ true → Reaches nodes z y
names_reach nodes z i y True e r h = absurd (not_both false h refl)
names_reach nodes z i y (Leaf k) e r h = absurd (not_both false h refl)
names_reach nodes z i y (And p q) e r h =
    elim (or_cases (y == var_of p) (y == var_of q) h) [
      | inl at ↦ subst (λ x. Reaches nodes z x) (sym (eqb-true y (var_of p) at)) (left i p q r e)
      | inr at ↦ subst (λ x. Reaches nodes z x) (sym (eqb-true y (var_of q) at)) (right i p q r e)
    ]

-- and names only those before it
names_below : (i y : ℕ) (node : Node) → AreBelow i node → names node y ≡ true → y < i
names_below i y True b h = absurd (not_both false h refl)
names_below i y (Leaf k) b h = absurd (not_both false h refl)
names_below i y (And p q) b h =
    elim (or_cases (y == var_of p) (y == var_of q) h) [
      | inl at ↦ let e = eqb-true y (var_of p) at in omega (arith, b.0)
      | inr at ↦ let e = eqb-true y (var_of q) at in omega (arith, b.1)
    ]

-- a marked node whose inputs are marked now
pub spread_step : (nodes : List Node) (i n : ℕ) (node : Node) (old was now : ℕ → Bool) → n ≡ i + 1 → node ≡ node_at nodes i → AreBelow i node → was i ≡ true → ((y : ℕ) → now y ≡ (names node y || was y)) → Spreads nodes n old was → Spreads nodes i old now
spread_step nodes i n node old was now e is below marked next s = record {
  kept = λ y h. next y ∙ or_right (names node y) _ (s.kept y h);
  reached = λ y h.
      elim (or_cases (names node y) (was y) (sym (next y) ∙ h)) [
        | inl named ↦ let r = s.reached i marked in (r.0, r.1, names_reach nodes r.0 i y node (sym is) r.2 named)
        | inr before ↦ s.reached y before
      ];
  closed = λ y p q le h gate.
      elim (below_or_at i y le) [
        | inl at ↦
            let e2 : node ≡ And p q = is ∙ ap (node_at nodes) (sym at) ∙ gate in (
              next (var_of p) ∙ or_left _ _ (names_left node p q e2),
              next (var_of q) ∙ or_left _ _ (names_right node p q e2),
            )
        | inr past ↦
            elim (or_cases (names node y) (was y) (sym (next y) ∙ h)) [
              | inl named ↦ let lt = names_below i y node below named in absurd (omega arith)
              | inr before ↦
                  let c = s.closed y p q (omega arith) before gate in (
                    next (var_of p) ∙ or_right (names node (var_of p)) _ c.0,
                    next (var_of q) ∙ or_right (names node (var_of q)) _ c.1,
                  )
            ]
      ];
}

-- what a marked node reaches is marked
spread_reaches : (nodes : List Node) (old new : ℕ → Bool) (z y : ℕ) → Spreads nodes 0 old new → new z ≡ true → Reaches nodes z y → new y ≡ true
spread_reaches nodes old new z y s h here = h
spread_reaches nodes old new z y s h (left x p q r e) = (s.closed x p q (omega arith) (spread_reaches nodes old new z x s h r) e).0
spread_reaches nodes old new z y s h (right x p q r e) = (s.closed x p q (omega arith) (spread_reaches nodes old new z x s h r) e).1

pub none_marked : (n x : ℕ) → mark_of (replicate n false) x ≡ false
none_marked zero x = refl
none_marked (suc n) zero = refl
none_marked (suc n) (suc x) = none_marked n x

-- the marks that spread from the goal's literals
pub cone_marked : (nodes : List Node) (goal : Goal) (old new : ℕ → Bool) → ((y : ℕ) → old y ≡ ((y == var_of goal.b) || ((y == var_of goal.a) || (y == var_of goal.ctx)))) → Spreads nodes 0 old new → (x : ℕ) → (new x ≡ true) ↔ InCone nodes goal x
cone_marked nodes goal old new start s x = (
  λ h.
      let r = s.reached x h in
      elim (or_cases (r.0 == var_of goal.b) _ (sym (start r.0) ∙ r.1)) [
        | inl b ↦ inr (inr (subst (λ z. Reaches nodes z x) (eqb-true r.0 (var_of goal.b) b) r.2))
        | inr more ↦
            elim (or_cases (r.0 == var_of goal.a) _ more) [
              | inl a ↦ inr (inl (subst (λ z. Reaches nodes z x) (eqb-true r.0 (var_of goal.a) a) r.2))
              | inr c ↦ inl (subst (λ z. Reaches nodes z x) (eqb-true r.0 (var_of goal.ctx) c) r.2)
            ]
      ],
  λ h.
      elim h [
        | inl c ↦
            let z = var_of goal.ctx in
            spread_reaches nodes old new z x s (s.kept z (start z ∙ or_right (z == var_of goal.b) _ (or_right (z == var_of goal.a) _ (eq-eqb z z refl)))) c
        | inr more ↦
            elim more [
              | inl a ↦
                  let z = var_of goal.a in
                  spread_reaches nodes old new z x s (s.kept z (start z ∙ or_right (z == var_of goal.b) _ (or_left _ _ (eq-eqb z z refl)))) a
              | inr b ↦
                  let z = var_of goal.b in
                  spread_reaches nodes old new z x s (s.kept z (start z ∙ or_left _ _ (eq-eqb z z refl))) b
            ]
      ],
)

-- a side of a cited equality
pub cites_at : (cited : List Equality) (i : ℕ) (e : Equality) → i < length cited → get_or cited i e ≡ e → (cites cited (var_of e.a) ≡ true) × (cites cited (var_of e.b) ≡ true)
cites_at [] i e lt is = absurd (omega arith)
cites_at (f ∷ cited) zero e lt is = (
  or_left _ _ (or_left _ _ (eq-eqb (var_of e.a) (var_of f.a) (ap (λ (g : Equality). var_of g.a) (sym is)))),
  or_left _ _ (or_right (var_of e.b == var_of f.a) _ (eq-eqb (var_of e.b) (var_of f.b) (ap (λ (g : Equality). var_of g.b) (sym is)))),
)
cites_at (f ∷ cited) (suc i) e lt is =
    let r = cites_at cited i e (omega arith) is in (
      or_right ((var_of e.a == var_of f.a) || (var_of e.a == var_of f.b)) _ r.0,
      or_right ((var_of e.b == var_of f.a) || (var_of e.b == var_of f.b)) _ r.1,
    )

-- the numbers rise by one at each used node
pub before_at_most : (used : ℕ → Bool) (x : ℕ) → used_before used x ≤ x
before_at_most used zero = omega arith
before_at_most used (suc x) =
    let h = before_at_most used x in
    elim (true_or_false (used x)) [ inl t ↦ rw t (omega arith) | inr f ↦ rw f (omega arith) ]

pub before_used : (used : ℕ → Bool) (x : ℕ) → used x ≡ true → used_before used (suc x) ≡ suc (used_before used x)
before_used used x t = rw t refl

pub before_rises : (used : ℕ → Bool) (x y : ℕ) → x ≤ y → used_before used x ≤ used_before used y
before_rises used x zero h = let e : x ≡ 0 = omega arith in rw e (omega arith)
before_rises used x (suc y) h =
    elim (below_or_at x (suc y) h) [
      | inl at ↦ subst (λ z. used_before used z ≤ used_before used (suc y)) at (omega arith)
      | inr past ↦
          let le = before_rises used x y (omega arith) in
          elim (true_or_false (used y)) [ inl t ↦ rw t (omega arith) | inr f ↦ rw f (omega arith) ]
    ]

-- a used node's number is below that of each later node
pub before_strict : (used : ℕ → Bool) (x y : ℕ) → used x ≡ true → x < y → used_before used x < used_before used y
before_strict used x y t lt =
    let at = before_used used x t in
    let le = before_rises used (suc x) y (omega arith) in
    omega arith

pub or_false : (a : Bool) → (a || false) ≡ a
or_false true = refl
or_false false = refl

-- the marks of three nodes
pub start_marks : (n : ℕ) (m0 m1 m2 m3 : List Bool) (x y z x2 y2 z2 : ℕ) → m0 ≡ replicate n false → x2 ≡ x → y2 ≡ y → z2 ≡ z → ((i : ℕ) → mark_of m1 i ≡ ((i == x2) || mark_of m0 i)) → ((i : ℕ) → mark_of m2 i ≡ ((i == y2) || mark_of m1 i)) → ((i : ℕ) → mark_of m3 i ≡ ((i == z2) || mark_of m2 i)) → (i : ℕ) → mark_of m3 i ≡ ((i == z) || ((i == y) || (i == x)))
start_marks n m0 m1 m2 m3 x y z x2 y2 z2 none ex ey ez first second third i =
    let nothing : mark_of m0 i ≡ false = ap (λ m. mark_of m i) none ∙ none_marked n i in
    third i ∙ ap (λ k. (i == k) || mark_of m2 i) ez ∙ ap (λ b. (i == z) || b) (second i ∙ ap (λ k. (i == k) || mark_of m1 i) ey ∙ ap (λ b. (i == y) || b) (first i ∙ ap (λ k. (i == k) || mark_of m0 i) ex ∙ ap (λ b. (i == x) || b) nothing ∙ or_false (i == x)))

-- one more cited equality within a limit
pub cited_within : (cited : List Equality) (i n : ℕ) (e : Equality) → i < length cited → get_or cited i e ≡ e → var_of e.a < n → var_of e.b < n → ((x : ℕ) → cites (take i cited) x ≡ true → x < n) → (x : ℕ) → cites (take (i + 1) cited) x ≡ true → x < n
cited_within cited i n e lt is la lb before x h =
    let more = list_any_more (λ (f : Equality). (x == var_of f.a) || (x == var_of f.b)) cited i e lt in
    let end : (cites (take i cited) x || ((x == var_of e.a) || (x == var_of e.b))) ≡ true = sym (more ∙ ap (λ f. cites (take i cited) x || ((x == var_of f.a) || (x == var_of f.b))) is) ∙ h in
    elim (or_cases (cites (take i cited) x) _ end) [
      | inl old ↦ before x old
      | inr new ↦ elim (or_cases (x == var_of e.a) (x == var_of e.b) new) [
        | inl at ↦ let same = eqb-true x (var_of e.a) at in omega arith
        | inr at ↦ let same = eqb-true x (var_of e.b) at in omega arith
      ]
    ]
