-- What forces the variables of gates.
use Rattle.std.proofs.Common.{◌≡◌, ℕ, zero, suc, ◌+◌, ◌-◌, ◌%◌, ◌<◌, ◌≤◌, ◌==◌, ◌&&◌, ◌⊎◌, Bool, true, false, List, [], ◌∷◌, length, take, refl, sym, ap, ◌∙◌, arith, inl, inr, eq-eqb}
use Rattle.std.proofs.lemmas.Bool.{eqb-true}
use Rattle.std.proofs.lemmas.Bool.Decides.{eqb_tells}
use Rattle.std.proofs.lemmas.List.{get_or-take, length-take-le}
use Rattle.pe_graph.specs.Literals.{var_of, is_negated, lit_of, complement_of}
use Rattle.pe_graph.proofs.Gates.{var_of-complement_of}
use Rattle.pe_cnf.specs.Clause.{has, literal_value, clause_value, clause_at, Satisfies}
use Rattle.pe_cnf.specs.ClauseSet.{ClauseSet}
use Rattle.pe_cnf.specs.Gates.{gate_start, gate_count, output_of, left_of, right_of, is_output, is_leaf, has_value, IsGate, AreGates, IsGated}
use Rattle.pe_cnf.specs.Forced.{AreSameAtLeaves, AreForced, is_set, Forces, IsForcing}
use Rattle.pe_cnf.proofs.MarkLemmas.{or_cases, or_left, or_right, not_both}
use Rattle.pe_cnf.proofs.GateLemmas.{leaf_of}
use Rattle.pe_cnf.proofs.Values.{all_true, more_true}
use Rattle.pe_cnf.proofs.Samples.{gate_forced, or_false}

-- each of the first n clauses is true
abbrev pub AreTrueUpTo : (ℕ → Bool) → List (List ℕ) → ℕ → Type 0
AreTrueUpTo w clauses n = (id : ℕ) → id < n → clause_value w (clause_at clauses id) ≡ true

true_up_to : (w : ℕ → Bool) (clauses : List (List ℕ)) (n : ℕ) → n ≤ length clauses → Satisfies w (take n clauses) → AreTrueUpTo w clauses n
true_up_to w clauses n le s id h =
    let size = length-take-le n clauses le in
    ap (clause_value w) (sym (get_or-take n clauses id [] h)) ∙ s id (omega (arith, size))

constant_forced : (w : ℕ → Bool) (leaves : List (ℕ × ℕ)) (clauses : List (List ℕ)) (n : ℕ) → AreGates leaves clauses n → AreTrueUpTo w clauses (gate_start n) → w 0 ≡ true
constant_forced w leaves clauses n gates s = or_false (w 0) (ap (clause_value w) (sym gates.constant) ∙ s 0 (omega arith))

plain_literal : (w : ℕ → Bool) (l : ℕ) → is_negated l ≡ false → literal_value w l ≡ w (var_of l)
plain_literal w l e = rw e refl

-- the output of a gate has the value that its inputs give
output_forced : (w : ℕ → Bool) (leaves : List (ℕ × ℕ)) (clauses : List (List ℕ)) (n g : ℕ) → g < n → IsGate leaves clauses g → AreTrueUpTo w clauses (gate_start n) → w (var_of (output_of clauses g)) ≡ (literal_value w (left_of clauses g) && literal_value w (right_of clauses g))
output_forced w leaves clauses n g h gate s =
    let x = output_of clauses g in
    let p = left_of clauses g in
    let q = right_of clauses g in
    let third = x ∷ complement_of p ∷ complement_of q ∷ [] in
    sym (plain_literal w x gate.plain) ∙
    gate_forced w x p q
    (more_true w (complement_of x ∷ p ∷ []) ((complement_of x ∷ q ∷ []) ∷ third ∷ []) (ap (clause_value w) (sym gate.first) ∙ s (gate_start g) (omega arith))
    (more_true w (complement_of x ∷ q ∷ []) (third ∷ []) (ap (clause_value w) (sym gate.second) ∙ s (gate_start g + 1) (omega arith))
    (more_true w third [] (ap (clause_value w) (sym gate.third) ∙ s (gate_start g + 2) (omega arith)) (all_true w))))

same_literal : (w u : ℕ → Bool) (l : ℕ) → w (var_of l) ≡ u (var_of l) → literal_value w l ≡ literal_value u l
same_literal w u l e = rw e refl

same_front : (w u : ℕ → Bool) (leaves : List (ℕ × ℕ)) (y : ℕ) → AreSameAtLeaves w u leaves → w 0 ≡ u 0 → ((y == 0) ≡ true) ⊎ (is_leaf leaves y ≡ true) → w y ≡ u y
same_front w u leaves y same zero_is h = elim h [
  | inl z ↦ let e = eqb-true y 0 z in ap w e ∙ zero_is ∙ ap u (sym e)
  | inr l ↦ let r = leaf_of leaves y l in ap w (sym r.2) ∙ same r.0 r.1 ∙ ap u r.2
]

same_up_to : (w u : ℕ → Bool) (leaves : List (ℕ × ℕ)) (clauses : List (List ℕ)) (n : ℕ) → AreGates leaves clauses n → AreSameAtLeaves w u leaves → AreTrueUpTo w clauses (gate_start n) → AreTrueUpTo u clauses (gate_start n) → (m y : ℕ) → m ≤ n → has_value leaves clauses m y ≡ true → w y ≡ u y
same_up_to w u leaves clauses n gates same s t zero y le h =
    let zero_is : w 0 ≡ u 0 = constant_forced w leaves clauses n gates s ∙ sym (constant_forced u leaves clauses n gates t) in
    same_front w u leaves y same zero_is (elim (or_cases (y == 0) _ h) [
      | inl z ↦ inl z
      | inr more ↦ elim (or_cases (is_leaf leaves y) false more) [ inl l ↦ inr l | inr f ↦ absurd (not_both false f refl) ]
    ])
same_up_to w u leaves clauses n gates same s t (suc g) y le h =
    let zero_is : w 0 ≡ u 0 = constant_forced w leaves clauses n gates s ∙ sym (constant_forced u leaves clauses n gates t) in
    elim (or_cases (y == 0) _ h) [
      | inl z ↦ same_front w u leaves y same zero_is (inl z)
      | inr more ↦ elim (or_cases (is_leaf leaves y) _ more) [
        | inl l ↦ same_front w u leaves y same zero_is (inr l)
        | inr o ↦ elim (or_cases (y == var_of (output_of clauses g)) (is_output clauses g y) o) [
          | inl at ↦
              let e = eqb-true y (var_of (output_of clauses g)) at in
              let lt : g < n = omega arith in
              let gate = gates.each g lt in
              let left = same_literal w u (left_of clauses g) (same_up_to w u leaves clauses n gates same s t g (var_of (left_of clauses g)) (omega arith) gate.left_known) in
              let right = same_literal w u (right_of clauses g) (same_up_to w u leaves clauses n gates same s t g (var_of (right_of clauses g)) (omega arith) gate.right_known) in
              ap w e ∙ output_forced w leaves clauses n g lt gate s ∙
              ap (λ b. b && literal_value w (right_of clauses g)) left ∙ ap (λ b. literal_value u (left_of clauses g) && b) right ∙
              sym (output_forced u leaves clauses n g lt gate t) ∙ ap u (sym e)
          | inr old ↦ same_up_to w u leaves clauses n gates same s t g y (omega arith) (or_right (y == 0) _ (or_right (is_leaf leaves y) _ old))
        ]
      ]
    ]

front_gates_are : (leaves : List (ℕ × ℕ)) (clauses : List (List ℕ)) (n m : ℕ) → m ≤ n → AreGates leaves clauses n → AreGates leaves clauses m
front_gates_are leaves clauses n m le gates = record {
  room = let r = gates.room in omega arith;
  constant = gates.constant;
  each = λ g h. gates.each g (omega arith);
}

pub gates_forced : (set : ClauseSet) (n : ℕ) → IsGated set → n ≤ gate_count set → AreForced set n
gates_forced set n gated le w u same s t y h =
    let gates = front_gates_are set.leaves set.clauses (gate_count set) n le gated.gates_are in
    same_up_to w u set.leaves set.clauses n gates same (true_up_to w set.clauses (gate_start n) gates.room s) (true_up_to u set.clauses (gate_start n) gates.room t) n y (omega arith) h

-- a literal, or its complement, of a variable that is set
literal_is : (l : ℕ) → ((lit_of (var_of l) false ≡ l) × (lit_of (var_of l) true ≡ complement_of l)) ⊎ ((lit_of (var_of l) true ≡ l) × (lit_of (var_of l) false ≡ complement_of l))
literal_is l =
    elim (eqb_tells (l % 2) 1) [
      | inl t ↦ inr (omega arith, rw t.0 (omega arith))
      | inr f ↦ inl (omega arith, rw f.0 (omega arith))
    ]

set_cases : (known : ℕ → Bool) (l : ℕ) → is_set known (var_of l) ≡ true → (known l ≡ true) ⊎ (known (complement_of l) ≡ true)
set_cases known l h =
    let parts = or_cases (known (lit_of (var_of l) false)) (known (lit_of (var_of l) true)) h in
    elim (literal_is l) [
      | inl e ↦ elim parts [ inl k ↦ inl (ap known (sym e.0) ∙ k) | inr k ↦ inr (ap known (sym e.1) ∙ k) ]
      | inr e ↦ elim parts [ inl k ↦ inr (ap known (sym e.1) ∙ k) | inr k ↦ inl (ap known (sym e.0) ∙ k) ]
    ]

has_two : (a b m : ℕ) → has (a ∷ b ∷ []) m ≡ true → (m ≡ a) ⊎ (m ≡ b)
has_two a b m h = elim (or_cases (a == m) _ h) [
  | inl x ↦ inl (sym (eqb-true a m x))
  | inr more ↦ elim (or_cases (b == m) false more) [ inl x ↦ inr (sym (eqb-true b m x)) | inr f ↦ absurd (not_both false f refl) ]
]

has_three : (a b c m : ℕ) → has (a ∷ b ∷ c ∷ []) m ≡ true → (m ≡ a) ⊎ ((m ≡ b) ⊎ (m ≡ c))
has_three a b c m h = elim (or_cases (a == m) _ h) [
  | inl x ↦ inl (sym (eqb-true a m x))
  | inr more ↦ inr (has_two b c m more)
]

twice : (l : ℕ) → complement_of (complement_of l) ≡ l
twice l =
    elim (eqb_tells (l % 2) 1) [
      | inl t ↦ let even : (l - 1) % 2 ≡ 0 = omega arith in rw (t.0, even) (omega arith)
      | inr f ↦ let odd : (l + 1) % 2 ≡ 1 = omega arith in rw (f.0, odd) (omega arith)
    ]

forces_two : (known : ℕ → Bool) (clause : List ℕ) (a b : ℕ) → clause ≡ a ∷ b ∷ [] → known (complement_of b) ≡ true → Forces known clause a
forces_two known clause a b e h = rw e (record {
  inside = or_left (a == a) _ (eq-eqb a a refl);
  others = λ m p n. elim (has_two a b m p) [ inl x ↦ absurd (n x) | inr x ↦ ap (λ k. known (complement_of k)) x ∙ h ];
})

forces_three : (known : ℕ → Bool) (clause : List ℕ) (a b c : ℕ) → clause ≡ a ∷ b ∷ c ∷ [] → known (complement_of b) ≡ true → known (complement_of c) ≡ true → Forces known clause a
forces_three known clause a b c e h k = rw e (record {
  inside = or_left (a == a) _ (eq-eqb a a refl);
  others = λ m p n. elim (has_three a b c m p) [
    | inl x ↦ absurd (n x)
    | inr more ↦ elim more [ inl x ↦ ap (λ k. known (complement_of k)) x ∙ h | inr x ↦ ap (λ k. known (complement_of k)) x ∙ k ]
  ];
})

pub gate_forcing : (set : ClauseSet) (g : ℕ) → IsGated set → g < gate_count set → IsForcing set g
gate_forcing set g gated lt known sl sr =
    let gate = gated.gates_are.each g lt in
    let x = output_of set.clauses g in
    let p = left_of set.clauses g in
    let q = right_of set.clauses g in
    let start : gate_start g + 0 ≡ gate_start g = omega arith in
    elim (set_cases known p sl) [
      | inr np ↦ (0, complement_of x, omega arith, var_of-complement_of x, forces_two known _ (complement_of x) p (ap (clause_at set.clauses) start ∙ gate.first) np)
      | inl yp ↦ elim (set_cases known q sr) [
        | inr nq ↦ (1, complement_of x, omega arith, var_of-complement_of x, forces_two known _ (complement_of x) q gate.second nq)
        | inl yq ↦ (2, x, omega arith, refl, forces_three known _ x (complement_of p) (complement_of q) gate.third (ap known (twice p) ∙ yp) (ap known (twice q) ∙ yq))
      ]
    ]
