-- Masks that are linked by their remainders, and the way down along the links.
use Rattle.std.proofs.Common.{◌≡◌, ℕ, ◌+◌, ◌%◌, ◌<◌, ◌≤◌, List, [], ◌∷◌, ◌++◌, length, get_or, set, refl, sym, ap, subst, ◌∙◌, arith, inl, inr}
use Rattle.std.proofs.lemmas.List.{length-set, length_push, get_or-set_same, get_or-set_other, get_or_append_left, get_or_push}
use Rattle.std.proofs.lemmas.Bool.{cases_lt}
use Rattle.pe_cnf.specs.Clause.{clause_at}
use Rattle.pe_solver.specs.Masks.{IsMask, AreMasks, buckets, IsOfRest, IsLast, IsLastBelow, rest_at, IsLastMask, AreLinked}
use Rattle.pe_solver.specs.Derivation.{AreSame}
use Rattle.pe_solver.proofs.MaskLemmas.{same_mask, mask_of_same, eq_or_not, lt_or_eq}

-- P and Q hold at the same numbers below n
last_by : (P Q : ℕ → Type 0) (n x : ℕ) → ((i : ℕ) → i < n → P i → Q i) → ((i : ℕ) → i < n → Q i → P i) → IsLast P n x → IsLast Q n x
last_by P Q n x to from l =
    let within = l.within in
    record {
      within = within;
      own = λ i e. to i (omega arith) (l.own i e);
      none = λ i ge lt q. l.none i ge lt (from i lt q);
    }

-- P holds at n
last_here : (P : ℕ → Type 0) (n : ℕ) → P n → IsLast P (n + 1) (n + 1)
last_here P n p = record {
  within = omega arith;
  own = λ i e. let same : n ≡ i = omega arith in subst P same p;
  none = λ i ge lt q. omega arith;
}

-- P doesn't hold at n
last_over : (P : ℕ → Type 0) (n x : ℕ) → (P n → ⊥) → IsLast P n x → IsLast P (n + 1) x
last_over P n x not l =
    let within = l.within in
    record {
      within = omega arith;
      own = l.own;
      none = λ i ge lt q. elim (lt_or_eq i n lt) [ inl less ↦ l.none i ge less q | inr same ↦ not (subst P same q) ];
    }

-- the same masks below n
last_same : (a b : List ℕ) (n r s x y : ℕ) → ((i : ℕ) → i < n → get_or a i 0 ≡ get_or b i 0) → r ≡ s → x ≡ y → IsLastMask a n r x → IsLastMask b n s y
last_same a b n r s x y same rest at l =
    let within = l.within in
    record {
      within = omega arith;
      own = λ i e. ap (λ m. m % buckets) (sym (same i (omega arith))) ∙ l.own i (at ∙ e) ∙ rest;
      none = λ i ge lt q. l.none i (omega arith) lt (ap (λ m. m % buckets) (same i lt) ∙ q ∙ sym rest);
    }

-- one mask more
pub linked_push : (ms last before : List ℕ) (m : ℕ) → AreLinked ms last before → AreLinked (ms ++ m ∷ []) (set last (m % buckets) (length ms + 1)) (before ++ get_or last (m % buckets) 0 ∷ [])
linked_push ms last before m s =
    let n = length ms in
    let size = s.heads in
    let many = s.links in
    let count = length_push ms m in
    let kept : (i : ℕ) → i < n → get_or ms i 0 ≡ get_or (ms ++ m ∷ []) i 0 = λ i lt. sym (get_or_append_left ms (m ∷ []) 0 i lt) in
    let new : rest_at (ms ++ m ∷ []) n ≡ m % buckets = ap (λ k. k % buckets) (get_or_push ms m 0 n refl) in
    let newest = s.head (m % buckets) (omega arith) in
    record {
      heads = length-set last (m % buckets) (n + 1) ∙ size;
      links = length_push before _ ∙ ap (λ k. k + 1) many ∙ sym count;
      head = λ r lt.
          elim (eq_or_not r (m % buckets)) [
            | inl same ↦
                rw (count, same, get_or-set_same last (m % buckets) (n + 1) 0 (omega arith)) (last_here (λ i. rest_at (ms ++ m ∷ []) i ≡ m % buckets) n new)
            | inr other ↦
                let older = last_same ms (ms ++ m ∷ []) n r r _ _ kept refl refl (s.head r lt) in
                rw (count, get_or-set_other last (m % buckets) r (n + 1) 0 other) (last_over (λ i. rest_at (ms ++ m ∷ []) i ≡ r) n _ (λ e. other (sym e ∙ new)) older)
          ];
      link = λ id lt.
          elim (lt_or_eq id n (omega arith)) [
            | inl less ↦
                last_same ms (ms ++ m ∷ []) id _ _ _ _ (λ i h. kept i (omega arith)) (ap (λ k. k % buckets) (kept id less)) (sym (get_or_append_left before _ 0 id (omega arith))) (s.link id less)
            | inr same ↦
                rw same (last_same ms (ms ++ m ∷ []) n _ _ _ _ kept (sym new) (sym (get_or_push before _ 0 n many)) newest)
          ];
    }

-- the remainder of a clause is that of its mask
pub rest_of_clause : (cs : List (List ℕ)) (ms : List ℕ) (id r : ℕ) → AreMasks cs ms → id < length cs → IsOfRest (clause_at cs id) r → rest_at ms id ≡ r
rest_of_clause cs ms id r s lt o =
    ap (λ m. m % buckets) (same_mask (clause_at cs id) (clause_at cs id) _ _ (λ l. refl) (s.each id lt) o.is) ∙ o.rest

-- so the last mask is that of the last clause
pub last_clause : (cs : List (List ℕ)) (ms : List ℕ) (n r x : ℕ) → AreMasks cs ms → n ≤ length cs → IsLastMask ms n r x → IsLastBelow cs n r x
last_clause cs ms n r x s le =
    last_by (λ i. rest_at ms i ≡ r) (λ i. IsOfRest (clause_at cs i) r) n x
    (λ i lt e. record { mask = get_or ms i 0; is = s.each i (omega arith); rest = e })
    (λ i lt o. rest_of_clause cs ms i r s (omega arith) o)

-- what is passed on the way down: no clause from x on is the same, and the one below x has the remainder
pub record IsPassed (cs : List (List ℕ)) (clause : List ℕ) (r x : ℕ) : Type 0 where
  pub within : x ≤ length cs
  pub own : (i : ℕ) → x ≡ i + 1 → IsOfRest (clause_at cs i) r
  pub none : (i : ℕ) → x ≤ i → i < length cs → AreSame (clause_at cs i) clause → ⊥

-- the same clause has the same remainder
rest_of_same : (c d : List ℕ) (m : ℕ) → AreSame c d → IsMask d m → IsOfRest c (m % buckets)
rest_of_same c d m s p = record { mask = m; is = mask_of_same c d m s p; rest = refl }

-- at the start of the way nothing is passed
pub passed_from : (cs : List (List ℕ)) (clause : List ℕ) (m x : ℕ) → IsMask clause m → IsLastBelow cs (length cs) (m % buckets) x → IsPassed cs clause (m % buckets) x
passed_from cs clause m x p l = record {
  within = l.within;
  own = l.own;
  none = λ i ge lt s. l.none i ge lt (rest_of_same _ clause m s p);
}

-- one clause on
pub passed_on : (cs : List (List ℕ)) (clause : List ℕ) (m id x y : ℕ) → IsMask clause m → x ≡ id + 1 → (AreSame (clause_at cs id) clause → ⊥) → IsPassed cs clause (m % buckets) x → IsLastBelow cs id (m % buckets) y → IsPassed cs clause (m % buckets) y
passed_on cs clause m id x y p at not was l =
    let within = l.within in
    let room = was.within in
    record {
      within = omega arith;
      own = l.own;
      none = λ i ge lt s.
          elim (cases_lt i id) [
            | inl less ↦ l.none i ge less (rest_of_same _ clause m s p)
            | inr more ↦ elim (eq_or_not i id) [
              | inl same ↦ not (subst (λ k. AreSame (clause_at cs k) clause) same s)
              | inr other ↦ was.none i (omega arith) lt s
            ]
          ];
    }
