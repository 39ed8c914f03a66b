-- Clauses by their numbers, given and derived.
use Rattle.std.proofs.Common.{◌≡◌, ℕ, ◌+◌, ◌-◌, ◌<◌, ◌≤◌, Bool, true, false, List, [], ◌∷◌, length, get_or, take, refl, suc, zero, ap, sym, ◌∙◌, subst, arith, inl, inr, ◌⊎◌, map, length-append}
use Rattle.std.proofs.Math.Seq.{get_or-append_right}
use Rattle.std.proofs.lemmas.List.{get_or-take, take-map, get_or-map, get_or_past, length-take}
use Rattle.pe_cnf.specs.Clause.{clause_at, IsBelow, AllBelow, clause_value, Satisfies}
use Rattle.pe_refute.specs.Chain.{clause_of, all_clauses}
use Rattle.pe_refute.specs.declared.evidence.Derived.{Derived}
use Rattle.pe_refute.proofs.Walk.{false_is_true}

pub lt_or_le : (a b : ℕ) → (a < b) ⊎ (b ≤ a)
lt_or_le a b = grind arith

length-map : (chain : List Derived) → length (map clause_of chain) ≡ length chain
length-map [] = refl
length-map (d ∷ chain) = ap suc (length-map chain)

pub length-all : (given : List (List ℕ)) (chain : List Derived) → length (all_clauses given chain) ≡ length given + length chain
length-all given chain = length-append given (map clause_of chain) ∙ ap (λ n. length given + n) (length-map chain)

-- and a derived one its number behind those given
pub derived_at : (given : List (List ℕ)) (chain : List Derived) (id : ℕ) (d : Derived) → length given ≤ id → id < length given + length chain →
    clause_at (all_clauses given chain) id ≡ clause_of (get_or chain (id - length given) d)
derived_at given chain id d le lt =
    get_or-append_right given (map clause_of chain) id [] le ∙
    let h : id - length given < length chain = omega arith in
    get_or-map clause_of chain (id - length given) d [] h

pub past_at : (cs : List (List ℕ)) (id : ℕ) → length cs ≤ id → clause_at cs id ≡ []
past_at cs id h = get_or_past cs id [] h

-- those before the first n of the chain are the same
pub take_at : (given : List (List ℕ)) (chain : List Derived) (n id : ℕ) → n ≤ length chain → id < length given + n →
    clause_at (all_clauses given (take n chain)) id ≡ clause_at (all_clauses given chain) id
take_at [] chain n id le lt = rw (← take-map clause_of n chain) (get_or-take n (map clause_of chain) id [] (omega arith))
take_at (c ∷ given) chain n zero le lt = refl
take_at (c ∷ given) chain n (suc id) le lt = take_at given chain n id le (omega arith)

pub length-all_take : (given : List (List ℕ)) (chain : List Derived) (n : ℕ) → n ≤ length chain → length (all_clauses given (take n chain)) ≡ length given + n
length-all_take given chain n le =
    let k : length (take n chain) ≡ n = omega (arith, length-take {A = Derived}) in
    length-all given (take n chain) ∙ ap (λ k. length given + k) k

pub below_nothing : (n : ℕ) → IsBelow n []
below_nothing n l h = absurd (false_is_true false refl h)

pub below_take : (n : ℕ) (given : List (List ℕ)) (chain : List Derived) (i : ℕ) → i ≤ length chain → AllBelow n (all_clauses given chain) → AllBelow n (all_clauses given (take i chain))
below_take n given chain i le b id = elim (lt_or_le id (length given + i)) [
  | inl lt ↦ subst (IsBelow n) (sym (take_at given chain i id le lt)) (b id)
  | inr past ↦ subst (IsBelow n) (sym (past_at (all_clauses given (take i chain)) id (rw (length-all_take given chain i le) past))) (below_nothing n)
]

pub below_at : (n : ℕ) (given : List (List ℕ)) (chain : List Derived) (k : ℕ) (d : Derived) → k < length chain → AllBelow n (all_clauses given chain) → IsBelow n (clause_of (get_or chain k d))
below_at n given chain k d lt b =
    let e : (length given + k) - length given ≡ k = omega arith in
    let le : length given ≤ length given + k = omega arith in
    let more : length given + k < length given + length chain = omega arith in
    subst (IsBelow n) (derived_at given chain (length given + k) d le more ∙ ap (λ j. clause_of (get_or chain j d)) e) (b (length given + k))

-- true for the first n of the chain, and for the next
pub satisfies_more : (v : ℕ → Bool) (given : List (List ℕ)) (chain : List Derived) (n : ℕ) (d : Derived) → n < length chain →
    Satisfies v (all_clauses given (take n chain)) → clause_value v (clause_of (get_or chain n d)) ≡ true → Satisfies v (all_clauses given (take (n + 1) chain))
satisfies_more v given chain n d lt s t id h =
    let le : n + 1 ≤ length chain = omega arith in
    let k : id < length given + (n + 1) = rw (length-all_take given chain (n + 1) le) at h in
    let true_at : List ℕ → Type 0 = λ c. clause_value v c ≡ true in
    subst true_at (sym (take_at given chain (n + 1) id le k))
    (elim (lt_or_le id (length given + n)) [
      | inl less ↦
          let le2 : n ≤ length chain = omega arith in
          subst true_at (take_at given chain n id le2 less) (s id (rw (length-all_take given chain n le2) less))
      | inr past ↦
          let e : id ≡ length given + n = omega arith in
          let z : id - length given ≡ n = omega arith in
          let lo : length given ≤ id = omega arith in
          let hi : id < length given + length chain = omega arith in
          subst true_at (sym (derived_at given chain id d lo hi ∙ ap (λ j. clause_of (get_or chain j d)) z)) t
    ])
