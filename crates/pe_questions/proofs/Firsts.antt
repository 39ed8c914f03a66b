-- The first of a list with a property, by a test that agrees with it.
use Rattle.std.proofs.Common.{◌≡◌, Bool, true, false, cond, List, [], ◌∷◌, map, Some, None, refl, sym, ap, ◌∙◌, subst}
use Rattle.std.specs.Prelude.{find}
use Rattle.std.specs.List.{All}
use Rattle.std.proofs.lemmas.List.Elements.{All-head, All-tail, All-cons, All-nil}
use Rattle.pe_design.specs.declared.design.Design.{Design}
use Rattle.pe_questions.specs.declared.cases.Case.{Case}
use Rattle.pe_questions.specs.Answers.{HasNone, IsFirst}
use Rattle.pe_questions.specs.Cases.{IsCase}

-- the test passes on a case exactly where its assignment has the property
pub record Agrees (d : Design) (test : Case → Bool) (P : List Bool → Type 0) : Type 0 where
  pub passes : (c : Case) → IsCase d c → test c ≡ true → P c.bits
  pub fails : (c : Case) → IsCase d c → test c ≡ false → P c.bits → ⊥

-- what is found is the first
pub record IsFound (d : Design) (test : Case → Bool) (P : List Bool → Type 0) (list : List (List Bool)) (c : Case) : Type 0 where
  pub first : IsFirst P list c.bits
  pub case : IsCase d c
  pub passed : test c ≡ true

same_found : (x y : Case) → Some x ≡ Some y → x ≡ y
same_found x y e = cc

-- where none is found no assignment has the property
pub none_found : (d : Design) (test : Case → Bool) (P : List Bool → Type 0) (cases : List Case) → Agrees d test P → All (IsCase d) cases → find test cases ≡ None → HasNone P (map (λ c. c.bits) cases)
none_found d test P [] agrees each e = All-nil (λ bits. P bits → ⊥)
none_found d test P (c ∷ cases) agrees each e = at_head (test c) refl (none_found d test P cases agrees (All-tail (IsCase d) c cases each)) e
  where
    at_head : (b : Bool) → test c ≡ b → (find test cases ≡ None → HasNone P (map (λ k. k.bits) cases)) → cond b (Some c) (find test cases) ≡ None → HasNone P (map (λ k. k.bits) (c ∷ cases))
    at_head true s more k = absurd (let z : Some c ≡ None = k in cc)
    at_head false s more k =
        All-cons (λ bits. P bits → ⊥) c.bits (map (λ k. k.bits) cases) (agrees.fails c (All-head (IsCase d) c cases each) s) (more k)

pub is_found : (d : Design) (test : Case → Bool) (P : List Bool → Type 0) (cases : List Case) (c : Case) → Agrees d test P → All (IsCase d) cases → find test cases ≡ Some c → IsFound d test P (map (λ k. k.bits) cases) c
is_found d test P [] c agrees each e = absurd (let z : None ≡ Some c = e in cc)
is_found d test P (x ∷ cases) c agrees each e = at_head (test x) refl (is_found d test P cases c agrees (All-tail (IsCase d) x cases each)) e
  where
    Found : List Case → Type 0
    Found list = IsFound d test P (map (λ k. k.bits) list) c

    here : (y : Case) → y ≡ x → test y ≡ true → IsFound d test P (y.bits ∷ map (λ k. k.bits) cases) y
    here y same s =
        let case = subst (IsCase d) (sym same) (All-head (IsCase d) x cases each) in
        record {
          first = record {
            before = [];
            after = map (λ k. k.bits) cases;
            splits = refl;
            none = All-nil (λ bits. P bits → ⊥);
            has = agrees.passes y case s;
          };
          case = case;
          passed = s;
        }

    at_head : (b : Bool) → test x ≡ b → (find test cases ≡ Some c → Found cases) → cond b (Some x) (find test cases) ≡ Some c → Found (x ∷ cases)
    at_head true s more k =
        let same = same_found x c k in
        subst (λ y. IsFound d test P (y.bits ∷ map (λ z. z.bits) cases) c) (sym same) (here c (sym same) (ap test (sym same) ∙ s))
    at_head false s more k =
        let found = more k in
        record {
          first = record {
            before = x.bits ∷ found.first.before;
            after = found.first.after;
            splits = ap (λ xs. x.bits ∷ xs) found.first.splits;
            none = All-cons (λ bits. P bits → ⊥) x.bits found.first.before (agrees.fails x (All-head (IsCase d) x cases each) s) found.first.none;
            has = found.first.has;
          };
          case = found.case;
          passed = found.passed;
        }
