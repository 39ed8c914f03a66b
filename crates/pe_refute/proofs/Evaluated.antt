-- The evaluation of gates from their clauses.
use Rattle.std.proofs.Common.{◌≡◌, ◌≢◌, ℕ, zero, suc, ◌+◌, ◌-◌, ◌/◌, ◌%◌, ◌<◌, ◌≤◌, ◌==◌, ◌||◌, ◌&&◌, ◌⊎◌, Bool, true, false, cond, not, List, [], ◌∷◌, length, get_or, refl, sym, ap, ◌∙◌, subst, arith, inl, inr, eq-eqb}
use Rattle.std.proofs.lemmas.Bool.{eqb-true}
use Rattle.std.proofs.lemmas.Bool.Decides.{eqb_tells}
use Rattle.std.proofs.lemmas.List.{get_or_read}
use Rattle.pe_refute.proofs.Halves.{halved_more}
use Rattle.pe_graph.specs.Literals.{var_of, is_negated, lit_of, complement_of}
use Rattle.pe_cnf.specs.Clause.{has, clause_at, literal_value, clause_value, AllBelow}
use Rattle.pe_cnf.specs.ClauseSet.{ClauseSet, leaf_var}
use Rattle.pe_cnf.specs.Gates.{gate_start, output_of, left_of, right_of, is_output, is_leaf, has_value, IsGate, AreGates, AreApart, IsGated}
use Rattle.pe_cnf.proofs.MarkLemmas.{or_cases, or_left, or_right, true_or_false, not_both}
use Rattle.pe_cnf.proofs.GateLemmas.{order, value_leaf, value_more, leaf_of}
use Rattle.pe_cnf.proofs.Values.{value_complement, gate_true}
use Rattle.pe_refute.specs.Table.{halved, leaf_bit, Assigns}
use Rattle.pe_refute.specs.Evaluation.{IsEvaluated}

-- a literal of a clause is below the limit
pub below_at : (limit : ℕ) (clauses : List (List ℕ)) (id l : ℕ) → AllBelow limit clauses → has (clause_at clauses id) l ≡ true → var_of l < limit
below_at limit clauses id l s h = s id l h

pub has_first : (c : List ℕ) (x : ℕ) (rest : List ℕ) → c ≡ x ∷ rest → has c x ≡ true
has_first c x rest e = rw e (or_left _ _ (eq-eqb x x refl))

pub has_second : (c : List ℕ) (x y : ℕ) (rest : List ℕ) → c ≡ x ∷ y ∷ rest → has c y ≡ true
has_second c x y rest e = rw e (or_right (x == y) _ (or_left _ _ (eq-eqb y y refl)))

pub output_below : (limit : ℕ) (leaves : List (ℕ × ℕ)) (clauses : List (List ℕ)) (g : ℕ) → AllBelow limit clauses → IsGate leaves clauses g → (var_of (output_of clauses g) < limit) × (var_of (left_of clauses g) < limit) × (var_of (right_of clauses g) < limit)
output_below limit leaves clauses g s gate = (
  s _ _ (has_first _ _ _ gate.third),
  s _ _ (has_second _ _ _ _ gate.first),
  s _ _ (has_second _ _ _ _ gate.second),
)

-- whether a plain literal is a variable's own
same_not : (p q : Bool) → (p ≡ true → q ≡ true) → (q ≡ true → p ≡ true) → p ≡ q
same_not true true f g = refl
same_not true false f g = sym (f refl)
same_not false true f g = g refl
same_not false false f g = refl

plain_is : (l : ℕ) → is_negated l ≡ false → l ≡ lit_of (var_of l) false
plain_is l h = elim (eqb_tells (l % 2) 1) [ inl t ↦ absurd (not_both (is_negated l) t.0 h) | inr f ↦ let odd = f.1 in omega arith ]

pub own_literal : (y l : ℕ) → is_negated l ≡ false → (lit_of y false == l) ≡ (y == var_of l)
own_literal y l h =
    let plain = plain_is l h in
    same_not (lit_of y false == l) (y == var_of l)
    (λ t. let e = eqb-true (lit_of y false) l t in eq-eqb y (var_of l) (omega arith))
    (λ t. let e = eqb-true y (var_of l) t in eq-eqb (lit_of y false) l (omega arith))

-- a variable with a value is not the output of the next gate
apart : (leaves : List (ℕ × ℕ)) (clauses : List (List ℕ)) (g x y : ℕ) → has_value leaves clauses g x ≡ false → has_value leaves clauses g y ≡ true → (y == x) ≡ false
apart leaves clauses g x y fresh known = elim (true_or_false (y == x)) [
  | inr f ↦ f
  | inl t ↦ absurd (not_both (has_value leaves clauses g y) known (ap (has_value leaves clauses g) (eqb-true y x t) ∙ fresh))
]

constant_known : (leaves : List (ℕ × ℕ)) (clauses : List (List ℕ)) (g : ℕ) → has_value leaves clauses g 0 ≡ true
constant_known leaves clauses g = refl

leaf_known : (leaves all : List (ℕ × ℕ)) (i : ℕ) → i < length leaves → is_leaf leaves (leaf_var leaves i) ≡ true
leaf_known [] all i h = absurd (omega arith)
leaf_known (l ∷ leaves) all zero h = or_left _ _ (eq-eqb l.1 l.1 refl)
leaf_known (l ∷ leaves) all (suc i) h = or_right (leaf_var leaves i == l.1) _ (leaf_known leaves all i (omega arith))

lt_or_at : (g n : ℕ) → g < suc n → (g < n) ⊎ (g ≡ n)
lt_or_at g n h = grind arith

output_known : (clauses : List (List ℕ)) (j g : ℕ) → j < g → is_output clauses g (var_of (output_of clauses j)) ≡ true
output_known clauses j zero h = absurd (omega arith)
output_known clauses j (suc g) h =
    elim (lt_or_at j g h) [
      | inl less ↦ or_right (var_of (output_of clauses j) == var_of (output_of clauses g)) _ (output_known clauses j g less)
      | inr at ↦ or_left _ _ (eq-eqb (var_of (output_of clauses j)) (var_of (output_of clauses g)) (ap (λ i. var_of (output_of clauses i)) at))
    ]

pub known_later : (leaves : List (ℕ × ℕ)) (clauses : List (List ℕ)) (j g y : ℕ) → j ≤ g → has_value leaves clauses j y ≡ true → has_value leaves clauses g y ≡ true
known_later leaves clauses j zero y h k = let e : j ≡ 0 = omega arith in subst (λ n. has_value leaves clauses n y ≡ true) e k
known_later leaves clauses j (suc g) y h k =
    elim (lt_or_at j (suc g) (omega arith)) [
      | inl less ↦ value_more leaves clauses g y (known_later leaves clauses j g y (omega arith) k)
      | inr at ↦ subst (λ n. has_value leaves clauses n y ≡ true) at k
    ]

unknown_before : (leaves : List (ℕ × ℕ)) (clauses : List (List ℕ)) (g y : ℕ) → has_value leaves clauses (suc g) y ≡ false → (has_value leaves clauses g y ≡ false) × ((y == var_of (output_of clauses g)) ≡ false)
unknown_before leaves clauses g y h = (
  elim (true_or_false (has_value leaves clauses g y)) [ inr f ↦ f | inl t ↦ absurd (not_both _ (value_more leaves clauses g y t) h) ],
  elim (true_or_false (y == var_of (output_of clauses g))) [
    | inr f ↦ f
    | inl t ↦ absurd (not_both (has_value leaves clauses (suc g) y) (or_right (y == 0) _ (or_right (is_leaf leaves y) _ (or_left _ _ t))) h)
  ],
)

-- a literal of another variable keeps its value
pub kept_literal : (w now : ℕ → Bool) (l : ℕ) → now (var_of l) ≡ w (var_of l) → literal_value now l ≡ literal_value w l
kept_literal w now l e = ap (λ b. cond (is_negated l) (not b) b) e

-- a gate whose inputs give 1
pub step_marked : (leaves : List (ℕ × ℕ)) (clauses : List (List ℕ)) (n k g : ℕ) (w now : ℕ → Bool) → ((j : ℕ) → j < n → IsGate leaves clauses j) → g < n → ((y : ℕ) → now y ≡ ((y == var_of (output_of clauses g)) || w y)) → (literal_value w (left_of clauses g) && literal_value w (right_of clauses g)) ≡ true → IsEvaluated leaves clauses k g w → IsEvaluated leaves clauses k (suc g) now
step_marked leaves clauses n k g w now gates lt next is_one s =
    let x = var_of (output_of clauses g) in
    let gate = gates g lt in
    let keep : (y : ℕ) → has_value leaves clauses g y ≡ true → now y ≡ w y = λ y h. next y ∙ ap (λ b. b || w y) (apart leaves clauses g x y gate.fresh h) in
    record {
      constant = keep 0 (constant_known leaves clauses g) ∙ s.constant;
      leaves_are = λ i h. keep (leaf_var leaves i) (value_leaf leaves clauses g (leaf_var leaves i) (leaf_known leaves leaves i h)) ∙ s.leaves_are i h;
      gates = λ j h.
          elim (lt_or_at j g h) [
            | inl less ↦
                let old = gates j (omega arith) in
                let out = keep (var_of (output_of clauses j)) (or_right (var_of (output_of clauses j) == 0) _ (or_right (is_leaf leaves (var_of (output_of clauses j))) _ (output_known clauses j g less))) in
                let l = kept_literal w now (left_of clauses j) (keep _ (known_later leaves clauses j g _ (omega arith) old.left_known)) in
                let r = kept_literal w now (right_of clauses j) (keep _ (known_later leaves clauses j g _ (omega arith) old.right_known)) in
                out ∙ s.gates j less ∙ sym (ap (λ b. b && literal_value now (right_of clauses j)) l ∙ ap (λ b. literal_value w (left_of clauses j) && b) r)
            | inr at ↦
                let l = kept_literal w now (left_of clauses g) (keep _ gate.left_known) in
                let r = kept_literal w now (right_of clauses g) (keep _ gate.right_known) in
                let out : now x ≡ true = next x ∙ or_left _ _ (eq-eqb x x refl) in
                subst (λ i. now (var_of (output_of clauses i)) ≡ (literal_value now (left_of clauses i) && literal_value now (right_of clauses i))) (sym at)
                (out ∙ sym (ap (λ b. b && literal_value now (right_of clauses g)) l ∙ ap (λ b. literal_value w (left_of clauses g) && b) r ∙ is_one))
          ];
      fresh = λ y h. let u = unknown_before leaves clauses g y h in next y ∙ ap (λ b. b || w y) u.1 ∙ s.fresh y u.0;
    }

-- and one whose inputs give 0
pub step_plain : (leaves : List (ℕ × ℕ)) (clauses : List (List ℕ)) (n k g : ℕ) (w : ℕ → Bool) → ((j : ℕ) → j < n → IsGate leaves clauses j) → g < n → (literal_value w (left_of clauses g) && literal_value w (right_of clauses g)) ≡ false → IsEvaluated leaves clauses k g w → IsEvaluated leaves clauses k (suc g) w
step_plain leaves clauses n k g w gates lt is_zero s = record {
  constant = s.constant;
  leaves_are = s.leaves_are;
  gates = λ j h.
      elim (lt_or_at j g h) [
        | inl less ↦ s.gates j less
        | inr at ↦
            subst (λ i. w (var_of (output_of clauses i)) ≡ (literal_value w (left_of clauses i) && literal_value w (right_of clauses i))) (sym at)
            (s.fresh (var_of (output_of clauses g)) (gates g lt).fresh ∙ sym is_zero)
      ];
  fresh = λ y h. s.fresh y (unknown_before leaves clauses g y h).0;
}

plain_literal : (w : ℕ → Bool) (l : ℕ) → is_negated l ≡ false → literal_value w l ≡ w (var_of l)
plain_literal w l h = rw h refl

which : (g id : ℕ) → id < gate_start (suc g) → (id < gate_start g) ⊎ ((id ≡ gate_start g) ⊎ ((id ≡ gate_start g + 1) ⊎ (id ≡ gate_start g + 2)))
which g id h = grind arith

-- the clauses of evaluated gates are true
pub gates_hold : (leaves : List (ℕ × ℕ)) (clauses : List (List ℕ)) (k n g id : ℕ) (w : ℕ → Bool) → AreGates leaves clauses n → IsEvaluated leaves clauses k n w → g ≤ n → id < gate_start g → clause_value w (clause_at clauses id) ≡ true
gates_hold leaves clauses k n zero id w s e le lt =
    let z : id ≡ 0 = omega arith in
    ap (λ i. clause_value w (clause_at clauses i)) z ∙ ap (clause_value w) s.constant ∙ ap (λ b. b || false) e.constant
gates_hold leaves clauses k n (suc g) id w s e le lt =
    let gate = s.each g (omega arith) in
    let x = output_of clauses g in
    let p = left_of clauses g in
    let q = right_of clauses g in
    let all = gate_true w x p q (plain_literal w x gate.plain ∙ e.gates g (omega arith)) in
    elim (which g id lt) [
      | inl less ↦ gates_hold leaves clauses k n g id w s e (omega arith) less
      | inr more ↦ elim more [
        | inl at ↦ ap (λ i. clause_value w (clause_at clauses i)) at ∙ ap (clause_value w) gate.first ∙ all 0 (omega arith)
        | inr rest ↦ elim rest [
          | inl at ↦ ap (λ i. clause_value w (clause_at clauses i)) at ∙ ap (clause_value w) gate.second ∙ all 1 (omega arith)
          | inr at ↦ ap (λ i. clause_value w (clause_at clauses i)) at ∙ ap (clause_value w) gate.third ∙ all 2 (omega arith)
        ]
      ]
    ]

from_and : (x p q : Bool) → (not x || (p || false)) ≡ true → (not x || (q || false)) ≡ true → (x || (not p || (not q || false))) ≡ true → x ≡ (p && q)
from_and true true true a b c = refl
from_and true true false a b c = sym b
from_and true false q a b c = sym a
from_and false true true a b c = c
from_and false true false a b c = refl
from_and false false q a b c = refl

value_or : (b : Bool) → (b || false) ≡ b
value_or true = refl
value_or false = refl

-- an assignment that makes the clauses of the gates true gives each variable the value of the evaluation
pub agrees : (leaves : List (ℕ × ℕ)) (clauses : List (List ℕ)) (k n g y : ℕ) (w z : ℕ → Bool) → AreGates leaves clauses n → IsEvaluated leaves clauses k n w → Assigns leaves k z → ((id : ℕ) → id < gate_start n → clause_value z (clause_at clauses id) ≡ true) → g ≤ n → has_value leaves clauses g y ≡ true → z y ≡ w y
agrees leaves clauses k n zero y w z s e a t le h =
    elim (or_cases (y == 0) _ h) [
      | inl at ↦
          let zero_is = eqb-true y 0 at in
          let one : z 0 ≡ true = sym (value_or (z 0)) ∙ sym (ap (clause_value z) s.constant) ∙ t 0 (omega arith) in
          ap z zero_is ∙ one ∙ sym (ap w zero_is ∙ e.constant)
      | inr more ↦ elim (or_cases (is_leaf leaves y) false more) [
        | inl l ↦ let r = leaf_of leaves y l in ap z (sym r.2) ∙ a r.0 r.1 ∙ sym (ap w (sym r.2) ∙ e.leaves_are r.0 r.1)
        | inr none ↦ absurd (not_both false none refl)
      ]
    ]
agrees leaves clauses k n (suc g) y w z s e a t le h =
    let gate = s.each g (omega arith) in
    let x = output_of clauses g in
    let p = left_of clauses g in
    let q = right_of clauses g in
    let before : (u : ℕ) → has_value leaves clauses g u ≡ true → z u ≡ w u = λ u v. agrees leaves clauses k n g u w z s e a t (omega arith) v in
    elim (true_or_false (has_value leaves clauses g y)) [
      | inl old ↦ before y old
      | inr not_old ↦
          elim (true_or_false (y == var_of x)) [
            | inr other ↦ absurd (not_both (has_value leaves clauses (suc g) y) h (ap (λ b. (y == 0) || (is_leaf leaves y || (b || is_output clauses g y))) other ∙ not_old))
            | inl at ↦
                let c0 = sym (ap (clause_value z) gate.first) ∙ t (gate_start g) (omega arith) in
                let c1 = sym (ap (clause_value z) gate.second) ∙ t (gate_start g + 1) (omega arith) in
                let c2 = sym (ap (clause_value z) gate.third) ∙ t (gate_start g + 2) (omega arith) in
                let d0 : (not (literal_value z x) || (literal_value z p || false)) ≡ true = ap (λ b. b || (literal_value z p || false)) (sym (value_complement z x)) ∙ c0 in
                let d1 : (not (literal_value z x) || (literal_value z q || false)) ≡ true = ap (λ b. b || (literal_value z q || false)) (sym (value_complement z x)) ∙ c1 in
                let d2 : (literal_value z x || (not (literal_value z p) || (not (literal_value z q) || false))) ≡ true =
                ap (λ b. literal_value z x || (b || (not (literal_value z q) || false))) (sym (value_complement z p)) ∙ ap (λ b. literal_value z x || (literal_value z (complement_of p) || (b || false))) (sym (value_complement z q)) ∙ c2 in
                let out : literal_value z x ≡ (literal_value z p && literal_value z q) = from_and (literal_value z x) (literal_value z p) (literal_value z q) d0 d1 d2 in
                let lp : literal_value z p ≡ literal_value w p = kept_literal w z p (before (var_of p) gate.left_known) in
                let lq : literal_value z q ≡ literal_value w q = kept_literal w z q (before (var_of q) gate.right_known) in
                let both : (literal_value z p && literal_value z q) ≡ (literal_value w p && literal_value w q) = ap (λ b. b && literal_value z q) lp ∙ ap (λ b. literal_value w p && b) lq in
                ap z (eqb-true y (var_of x) at) ∙ sym (plain_literal z x gate.plain) ∙ out ∙ both ∙ sym (e.gates g (omega arith)) ∙ ap w (sym (eqb-true y (var_of x) at))
          ]
    ]

-- an element that is read from a clause
pub read_at : (c : List ℕ) (clauses : List (List ℕ)) (id i r : ℕ) → c ≡ clause_at clauses id → i < length (clause_at clauses id) → r ≡ get_or c i r → r ≡ get_or (clause_at clauses id) i 0
read_at c clauses id i r e lt is = get_or_read c i r (rw e lt) is 0 ∙ ap (λ d. get_or d i 0) e

-- one more variable is 1
pub mark_value : (known now : ℕ → Bool) (l x : ℕ) → l ≡ x → is_negated x ≡ false → ((m : ℕ) → now m ≡ ((m == l) || known m)) → (y : ℕ) → now (lit_of y false) ≡ ((y == var_of x) || known (lit_of y false))
mark_value known now l x e plain next y =
    next (lit_of y false) ∙ ap (λ b. b || known (lit_of y false)) (ap (λ m. lit_of y false == m) e ∙ own_literal y x plain)

-- the leaves from a place on have their values in the k-th assignment, all else but the constant is 0
pub record AreSet (leaves : List (ℕ × ℕ)) (clauses : List (List ℕ)) (k from : ℕ) (w : ℕ → Bool) : Type 0 where
  pub constant : w 0 ≡ true
  pub leaves_are : (i : ℕ) → from ≤ i → i < length leaves → w (leaf_var leaves i) ≡ leaf_bit k (length leaves) i
  pub earlier : (i : ℕ) → i < from → i < length leaves → w (leaf_var leaves i) ≡ false
  pub fresh : (y : ℕ) → has_value leaves clauses 0 y ≡ false → w y ≡ false

pub set_none : (leaves : List (ℕ × ℕ)) (clauses : List (List ℕ)) (k n : ℕ) (w : ℕ → Bool) → AreApart leaves → n ≡ length leaves → ((y : ℕ) → w y ≡ (y == 0)) → AreSet leaves clauses k n w
set_none leaves clauses k n w apart e next = record {
  constant = next 0;
  leaves_are = λ i le lt. absurd (omega arith);
  earlier = λ i lt h. elim (eqb_tells (leaf_var leaves i) 0) [ inl t ↦ let up = apart.above i h in absurd (omega (arith, t.1)) | inr f ↦ next (leaf_var leaves i) ∙ f.0 ];
  fresh = λ y h. elim (true_or_false (y == 0)) [ inl t ↦ absurd (not_both (has_value leaves clauses 0 y) (or_left _ _ t) h) | inr f ↦ next y ∙ f ];
}

from_or_at : (m i : ℕ) → m ≤ i → (i ≡ m) ⊎ (suc m ≤ i)
from_or_at m i h = grind arith

bit_place : (k n m from rest : ℕ) → from ≡ suc m → from ≤ n → rest ≡ halved k (n - from) → leaf_bit k n m ≡ (rest % 2 == 1)
bit_place k n m from rest e le is =
    let at : n - 1 - m ≡ n - from = omega arith in
    ap (λ j. halved k j % 2 == 1) at ∙ ap (λ r. r % 2 == 1) (sym is)

pub set_one : (leaves : List (ℕ × ℕ)) (clauses : List (List ℕ)) (k m from rest : ℕ) (w now : ℕ → Bool) → AreApart leaves → from ≡ suc m → from ≤ length leaves → rest ≡ halved k (length leaves - from) → rest % 2 ≡ 1 → ((y : ℕ) → now y ≡ ((y == leaf_var leaves m) || w y)) → AreSet leaves clauses k from w → AreSet leaves clauses k m now
set_one leaves clauses k m from rest w now apart e le is odd next s =
    let x = leaf_var leaves m in
    let other : (i : ℕ) → i < length leaves → i ≢ m → (leaf_var leaves i == x) ≡ false = λ i h ne.
    elim (eqb_tells (leaf_var leaves i) x) [
      | inr f ↦ f.0
      | inl t ↦ elim (order i m) [
        | inl lt ↦ absurd (apart.apart i m lt (omega arith) t.1)
        | inr more ↦ elim more [ inl at ↦ absurd (ne at) | inr gt ↦ absurd (apart.apart m i gt h (sym t.1)) ]
      ]
    ] in
    record {
      constant = next 0 ∙ or_right (0 == x) _ s.constant;
      leaves_are = λ i ge h.
          elim (from_or_at m i ge) [
            | inl at ↦ next (leaf_var leaves i) ∙ or_left _ _ (eq-eqb (leaf_var leaves i) x (ap (leaf_var leaves) at)) ∙ sym (ap (leaf_bit k (length leaves)) at ∙ bit_place k (length leaves) m from rest e le is ∙ eq-eqb (rest % 2) 1 odd)
            | inr past ↦ let ne : i ≢ m = omega arith in next (leaf_var leaves i) ∙ ap (λ b. b || w (leaf_var leaves i)) (other i h ne) ∙ s.leaves_are i (omega arith) h
          ];
      earlier = λ i lt h. let ne : i ≢ m = omega arith in next (leaf_var leaves i) ∙ ap (λ b. b || w (leaf_var leaves i)) (other i h ne) ∙ s.earlier i (omega arith) h;
      fresh = λ y h.
          elim (true_or_false (y == x)) [
            | inr f ↦ next y ∙ ap (λ b. b || w y) f ∙ s.fresh y h
            | inl t ↦ absurd (not_both (has_value leaves clauses 0 y) (ap (has_value leaves clauses 0) (eqb-true y x t) ∙ value_leaf leaves clauses 0 x (leaf_known leaves leaves m (omega arith))) h)
          ];
    }

pub set_zero : (leaves : List (ℕ × ℕ)) (clauses : List (List ℕ)) (k m from rest : ℕ) (w : ℕ → Bool) → from ≡ suc m → from ≤ length leaves → rest ≡ halved k (length leaves - from) → rest % 2 ≢ 1 → AreSet leaves clauses k from w → AreSet leaves clauses k m w
set_zero leaves clauses k m from rest w e le is even s = record {
  constant = s.constant;
  leaves_are = λ i ge h.
      elim (from_or_at m i ge) [
        | inl at ↦
            let bit : leaf_bit k (length leaves) m ≡ false = bit_place k (length leaves) m from rest e le is ∙ elim (eqb_tells (rest % 2) 1) [ inl t ↦ absurd (even t.1) | inr f ↦ f.0 ] in
            s.earlier i (omega arith) h ∙ sym (ap (leaf_bit k (length leaves)) at ∙ bit)
        | inr past ↦ s.leaves_are i (omega arith) h
      ];
  earlier = λ i lt h. s.earlier i (omega arith) h;
  fresh = s.fresh;
}

pub all_set : (leaves : List (ℕ × ℕ)) (clauses : List (List ℕ)) (k from : ℕ) (w : ℕ → Bool) → from ≤ 0 → AreSet leaves clauses k from w → IsEvaluated leaves clauses k 0 w
all_set leaves clauses k from w h s = record {
  constant = s.constant;
  leaves_are = λ i lt. s.leaves_are i (omega arith) lt;
  gates = λ g lt. absurd (omega arith);
  fresh = s.fresh;
}

pub rest_more : (k n from m rest : ℕ) → from ≡ suc m → from ≤ n → rest ≡ halved k (n - from) → rest / 2 ≡ halved k (n - m)
rest_more k n from m rest e le is =
    let at : n - m ≡ suc (n - from) = omega arith in
    ap (λ r. r / 2) is ∙ sym (halved_more k (n - from)) ∙ ap (halved k) (sym at)

pub constant_below : (set : ClauseSet) → IsGated set → AllBelow set.vars set.clauses → 0 < set.vars
constant_below set gated below = below 0 0 (has_first _ 0 [] gated.gates_are.constant)

pub both_values : (a : Bool) → (a && false) ≡ false
both_values true = refl
both_values false = refl
