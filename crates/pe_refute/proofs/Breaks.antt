-- An evaluated assignment, and whether it breaks a table.
use Rattle.std.proofs.Common.{◌≡◌, ℕ, ◌+◌, ◌<◌, ◌||◌, ◌⊎◌, Bool, true, false, not, List, [], length, take, refl, sym, ap, ◌∙◌, subst, arith, inl, inr}
use mathlib.Core.Bool.{beq}
use Rattle.std.specs.Bool.{IsTrue}
use Rattle.std.proofs.lemmas.List.{get_or-take, length-take-le}
use Rattle.pe_graph.specs.Literals.{var_of, complement_of}
use Rattle.pe_cnf.specs.Clause.{clause_at, literal_value, clause_value, Satisfies}
use Rattle.pe_cnf.specs.ClauseSet.{ClauseSet}
use Rattle.pe_cnf.specs.Gates.{gate_count, has_value, ctx_of, a_of, b_of, IsGated}
use Rattle.pe_cnf.proofs.MarkLemmas.{not_both}
use Rattle.pe_cnf.proofs.Values.{value_complement}
use Rattle.pe_refute.specs.Table.{Assigns}
use Rattle.pe_refute.specs.Evaluation.{IsEvaluated}
use Rattle.pe_refute.proofs.Evaluated.{gates_hold, agrees, kept_literal}

-- the clauses up to those of the sides
abbrev pub question_of : ClauseSet → List (List ℕ)
question_of set = take (set.gates + 3) set.clauses

question_at : (set : ClauseSet) (id : ℕ) → id < set.gates + 3 → clause_at (question_of set) id ≡ clause_at set.clauses id
question_at set id h = get_or-take (set.gates + 3) set.clauses id [] h

size_of : (set : ClauseSet) → IsGated set → length (question_of set) ≡ set.gates + 3
size_of set gated = length-take-le (set.gates + 3) set.clauses gated.room

place : (n id : ℕ) → id < n + 3 → (id < n) ⊎ ((id ≡ n) ⊎ ((id ≡ n + 1) ⊎ (id ≡ n + 2)))
place n id h = grind arith

differ_both : (a b : Bool) → beq a b ≡ false → ((a || (b || false)) ≡ true) × ((not a || (not b || false)) ≡ true)
differ_both true true h = absurd (not_both true refl h)
differ_both true false h = (refl, refl)
differ_both false true h = (refl, refl)
differ_both false false h = absurd (not_both true refl h)

both_differ : (a b : Bool) → (a || (b || false)) ≡ true → (not a || (not b || false)) ≡ true → beq a b ≡ false
both_differ true true p q = sym q
both_differ true false p q = refl
both_differ false true p q = refl
both_differ false false p q = sym p

-- where the context is 1 and the sides differ, the clauses are true
pub broken : (set : ClauseSet) (k n : ℕ) (w : ℕ → Bool) → IsGated set → n ≡ gate_count set → IsEvaluated set.leaves set.clauses k n w → literal_value w (ctx_of set) ≡ true → beq (literal_value w (a_of set)) (literal_value w (b_of set)) ≡ false → Satisfies w (question_of set)
broken set k n w gated e s c d id h =
    let size = size_of set gated in
    let lt : id < set.gates + 3 = omega arith in
    let a = a_of set in
    let b = b_of set in
    let at_is : n ≡ gate_count set = e in
    let t = differ_both (literal_value w a) (literal_value w b) d in
    let full : IsEvaluated set.leaves set.clauses k (gate_count set) w = subst (λ m. IsEvaluated set.leaves set.clauses k m w) e s in
    let start = gated.count in
    ap (clause_value w) (question_at set id lt) ∙
    elim (place set.gates id lt) [
      | inl less ↦ gates_hold set.leaves set.clauses k (gate_count set) (gate_count set) id w gated.gates_are full (omega arith) (omega arith)
      | inr more ↦ elim more [
        | inl at ↦ ap (λ i. clause_value w (clause_at set.clauses i)) at ∙ ap (clause_value w) gated.ctx ∙ ap (λ x. x || false) c
        | inr rest ↦ elim rest [
          | inl at ↦ ap (λ i. clause_value w (clause_at set.clauses i)) at ∙ ap (clause_value w) gated.differ ∙ t.0
          | inr at ↦
              ap (λ i. clause_value w (clause_at set.clauses i)) at ∙ ap (clause_value w) gated.differ_not ∙
              ap (λ x. x || (literal_value w (complement_of b) || false)) (value_complement w a) ∙ ap (λ x. not (literal_value w a) || (x || false)) (value_complement w b) ∙ t.1
        ]
      ]
    ]

value_or : (b : Bool) → (b || false) ≡ b
value_or true = refl
value_or false = refl

-- and where some assignment makes them true, the context is 1 and the sides differ in the evaluation too
pub breaks_of : (set : ClauseSet) (k n : ℕ) (w z : ℕ → Bool) → IsGated set → n ≡ gate_count set → IsEvaluated set.leaves set.clauses k n w → Assigns set.leaves k z → Satisfies z (question_of set) → (literal_value w (ctx_of set) ≡ true) × (beq (literal_value w (a_of set)) (literal_value w (b_of set)) ≡ false)
breaks_of set k n w z gated e s assigns t =
    let size = size_of set gated in
    let start = gated.count in
    let full : IsEvaluated set.leaves set.clauses k (gate_count set) w = subst (λ m. IsEvaluated set.leaves set.clauses k m w) e s in
    let hold : (id : ℕ) → id < set.gates + 3 → clause_value z (clause_at set.clauses id) ≡ true = λ id lt. ap (clause_value z) (sym (question_at set id lt)) ∙ t id (omega arith) in
    let same : (l : ℕ) → has_value set.leaves set.clauses (gate_count set) (var_of l) ≡ true → literal_value z l ≡ literal_value w l = λ l known.
    kept_literal w z l (agrees set.leaves set.clauses k (gate_count set) (gate_count set) (var_of l) w z gated.gates_are full assigns (λ id lt. hold id (omega arith)) (omega arith) known) in
    let a = a_of set in
    let b = b_of set in
    let la = same a gated.a_known in
    let lb = same b gated.b_known in
    let c0 : literal_value z (ctx_of set) ≡ true = sym (value_or (literal_value z (ctx_of set))) ∙ sym (ap (clause_value z) gated.ctx) ∙ hold set.gates (omega arith) in
    let c1 : (literal_value z a || (literal_value z b || false)) ≡ true = sym (ap (clause_value z) gated.differ) ∙ hold (set.gates + 1) (omega arith) in
    let c2 : (not (literal_value z a) || (not (literal_value z b) || false)) ≡ true =
    ap (λ x. x || (not (literal_value z b) || false)) (sym (value_complement z a)) ∙ ap (λ x. literal_value z (complement_of a) || (x || false)) (sym (value_complement z b)) ∙ sym (ap (clause_value z) gated.differ_not) ∙ hold (set.gates + 2) (omega arith) in (
      sym (same (ctx_of set) gated.ctx_known) ∙ c0,
      ap (λ x. beq x (literal_value w b)) (sym la) ∙ ap (beq (literal_value z a)) (sym lb) ∙ both_differ (literal_value z a) (literal_value z b) c1 c2,
    )

pub false_from : (b : Bool) → IsTrue (not b) → b ≡ false
false_from true h = absurd (not_both false h refl)
false_from false h = refl

pub true_from : (b : Bool) → IsTrue (not (not b)) → b ≡ true
true_from true h = refl
true_from false h = absurd (not_both false h refl)
