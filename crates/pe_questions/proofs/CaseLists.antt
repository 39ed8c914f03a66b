-- Cases in the order of their assignments.
use Rattle.std.proofs.Common.{◌≡◌, ◌≢◌, ℕ, suc, ◌-◌, Bool, true, false, List, [], ◌∷◌, ◌++◌, map, refl, sym, ap, ◌∙◌, subst, arith, append_assoc, append-nil}
use Rattle.std.proofs.lemmas.List.{map-append}
use Rattle.std.proofs.lemmas.List.Elements.{All-push}
use Rattle.pe_design.specs.declared.design.Design.{Design}
use Rattle.pe_questions.specs.declared.cases.Case.{Case}
use Rattle.pe_questions.specs.Assignments.{assignments}
use Rattle.pe_questions.specs.Cases.{IsCase, AreCases}
use Rattle.pe_questions.proofs.Trying.{by_first, behind_none}

-- one more case
pub cases_more : (d : Design) (before : List (List Bool)) (cases : List Case) (c : Case) (bits : List Bool) → AreCases d before cases → IsCase d c → c.bits ≡ bits → AreCases d (before ++ bits ∷ []) (cases ++ c ∷ [])
cases_more d before cases c bits are case e = record {
  each = All-push (IsCase d) cases c are.each case;
  are = map-append (λ k. k.bits) cases (c ∷ []) ∙ ap (λ xs. xs ++ c.bits ∷ []) are.are ∙ ap (λ b. before ++ b ∷ []) e;
}

-- with no bit left
pub cases_at : (d : Design) (before : List (List Bool)) (cases : List Case) (c : Case) (bits : List Bool) (n : ℕ) → n ≡ 0 → AreCases d before cases → IsCase d c → c.bits ≡ bits →
    AreCases d (before ++ map (λ more. bits ++ more) (assignments n)) (cases ++ c ∷ [])
cases_at d before cases c bits n z are case e =
    let one : map (λ more. bits ++ more) (assignments n) ≡ bits ∷ [] = ap (λ m. map (λ more. bits ++ more) (assignments m)) z ∙ ap (λ b. b ∷ []) (append-nil bits) in
    subst (λ list. AreCases d (before ++ list) (cases ++ c ∷ [])) (sym one) (cases_more d before cases c bits are case e)

-- with bits left: those that go on with 0, and then those that go on with 1
pub cases_both : (d : Design) (before : List (List Bool)) (bits zeros ones : List Bool) (n : ℕ) (after : List Case) → n ≢ 0 → zeros ≡ bits ++ false ∷ [] → ones ≡ bits ++ true ∷ [] →
    AreCases d ((before ++ map (λ more. zeros ++ more) (assignments (n - 1))) ++ map (λ more. ones ++ more) (assignments (n - 1))) after →
    AreCases d (before ++ map (λ more. bits ++ more) (assignments n)) after
cases_both d before bits zeros ones n after k z w are =
    let s : n ≡ suc (n - 1) = omega arith in
    let first = λ (b : List Bool). map (λ more. b ++ more) (assignments (n - 1)) in
    let joined : before ++ map (λ more. bits ++ more) (assignments n) ≡ (before ++ first zeros) ++ first ones =
    ap (λ m. before ++ map (λ more. bits ++ more) (assignments m)) s
    ∙ ap (λ xs. before ++ xs) (by_first bits (n - 1))
    ∙ sym (append_assoc before (first (bits ++ false ∷ [])) (first (bits ++ true ∷ [])))
    ∙ ap (λ b. (before ++ first b) ++ first (bits ++ true ∷ [])) (sym z)
    ∙ ap (λ b. (before ++ first zeros) ++ first b) (sym w) in
    subst (λ list. AreCases d list after) (sym joined) are

-- from no case and no bit on, all
pub all_cases : (d : Design) (cases : List Case) (n m : ℕ) → n ≡ m → AreCases d ([] ++ map (λ more. [] ++ more) (assignments n)) cases → AreCases d (assignments m) cases
all_cases d cases n m e are = subst (λ k. AreCases d (assignments k) cases) e (subst (λ list. AreCases d list cases) (behind_none (assignments n)) are)

pub no_cases : (d : Design) → AreCases d [] []
no_cases d = record { each = λ k x l. absurd (omega (arith, l)); are = refl }
