-- What is kept, as it grows.
use Rattle.std.proofs.Common.{◌≡◌, ℕ, ◌+◌, ◌-◌, ◌<◌, ◌≤◌, false, List, [], ◌∷◌, ◌++◌, length, get_or, take, refl, ap, sym, ◌∙◌, subst, arith, inl, inr, ◌⊎◌, map, append_assoc, length-append, eq-eqb}
use Rattle.std.proofs.Math.Seq.{take-append_seam, get_or-append_seam}
use Rattle.std.proofs.Math.ListN.{get_or-append}
use Rattle.std.proofs.lemmas.List.{take-append-le, map-append, append-nil}
use Rattle.pe_cnf.specs.Clause.{has, clause_at}
use Rattle.pe_refute.specs.Follow.{Follows}
use Rattle.pe_refute.specs.Chain.{clause_of, hints_of, EndsEmpty, IsGoodChain}
use Rattle.pe_refute.specs.declared.evidence.Derived.{Derived}
use Rattle.pe_refute.proofs.Numbers.{length-all}
use Rattle.pe_refute.proofs.Walk.{false_is_true}
use Rattle.pe_refute.proofs.Sight.{or_left}
use Rattle.pe_solver.specs.Lean.{IsLean, IsPart}
use Rattle.pe_solver.specs.Derivation.{AreSame, IsKept, IsSpent, NoneEmpty}

lt_or_eq : (i n : ℕ) → i < n + 1 → (i < n) ⊎ (i ≡ n)
lt_or_eq i n h = grind arith

length_push : {X : Type 0} (xs : List X) (x : X) → length (xs ++ x ∷ []) ≡ length xs + 1
length_push xs x = length-append xs (x ∷ [])

pub kept_none : (given : List (List ℕ)) → IsKept given given []
kept_none given = record {
  all_is = sym (append-nil given);
  lean = λ k d h. absurd (omega arith);
  new = λ k id d h. absurd (omega arith);
}

pub kept_push : (given all : List (List ℕ)) (chain : List Derived) (x : Derived) → IsKept given all chain → IsLean all (clause_of x) (hints_of x) →
    ((id : ℕ) → id < length all → AreSame (clause_at all id) (clause_of x) → ⊥) → IsKept given (all ++ clause_of x ∷ []) (chain ++ x ∷ [])
kept_push given all chain x kept lean new =
    let count : length all ≡ length given + length chain = ap length kept.all_is ∙ length-all given chain in
    record {
      all_is = ap (λ a. a ++ clause_of x ∷ []) kept.all_is ∙ append_assoc given (map clause_of chain) (clause_of x ∷ []) ∙
          ap (λ m. given ++ m) (sym (map-append clause_of chain (x ∷ [])));
      lean = λ k d h.
          elim (lt_or_eq k (length chain) (omega (arith, length_push chain x))) [
            | inl less ↦
                let a : take k (chain ++ x ∷ []) ≡ take k chain = take-append-le k chain (x ∷ []) (omega arith) in
                let b : get_or (chain ++ x ∷ []) k d ≡ get_or chain k d = get_or-append chain (x ∷ []) d k less in
                rw (a, b) (kept.lean k d less)
            | inr same ↦
                let a : take k (chain ++ x ∷ []) ≡ chain = ap (λ j. take j (chain ++ x ∷ [])) same ∙ take-append_seam chain (x ∷ []) in
                let b : get_or (chain ++ x ∷ []) k d ≡ x = ap (λ j. get_or (chain ++ x ∷ []) j d) same ∙ get_or-append_seam chain x [] d in
                rw (a, b) (subst (λ cs. IsLean cs (clause_of x) (hints_of x)) kept.all_is lean)
          ];
      new = λ k id d h i.
          elim (lt_or_eq k (length chain) (omega (arith, length_push chain x))) [
            | inl less ↦
                let b : get_or (chain ++ x ∷ []) k d ≡ get_or chain k d = get_or-append chain (x ∷ []) d k less in
                let c : clause_at (all ++ clause_of x ∷ []) id ≡ clause_at all id = get_or-append all (clause_of x ∷ []) [] id (omega arith) in
                rw (b, c) (kept.new k id d less i)
            | inr same ↦
                let b : get_or (chain ++ x ∷ []) k d ≡ x = ap (λ j. get_or (chain ++ x ∷ []) j d) same ∙ get_or-append_seam chain x [] d in
                let lt : id < length all = omega arith in
                let c : clause_at (all ++ clause_of x ∷ []) id ≡ clause_at all id = get_or-append all (clause_of x ∷ []) [] id lt in
                rw (b, c) (new id lt)
          ];
    }

pub kept_good : (given all : List (List ℕ)) (chain : List Derived) → IsKept given all chain → EndsEmpty chain → IsGoodChain given chain
kept_good given all chain kept ends = record { derived = λ k d h. (kept.lean k d h).follows; ends = ends }

pub good_push : (given all : List (List ℕ)) (chain now : List Derived) (x : Derived) → IsKept given all chain → Follows all (clause_of x) (hints_of x) → clause_of x ≡ [] →
    now ≡ chain ++ x ∷ [] → IsGoodChain given now
good_push given all chain now x kept f e g =
    rw g (record {
      derived = λ k d h.
          elim (lt_or_eq k (length chain) (omega (arith, length_push chain x))) [
            | inl less ↦
                let a : take k (chain ++ x ∷ []) ≡ take k chain = take-append-le k chain (x ∷ []) (omega arith) in
                let b : get_or (chain ++ x ∷ []) k d ≡ get_or chain k d = get_or-append chain (x ∷ []) d k less in
                rw (a, b) ((kept.lean k d less).follows)
            | inr same ↦
                let a : take k (chain ++ x ∷ []) ≡ chain = ap (λ j. take j (chain ++ x ∷ [])) same ∙ take-append_seam chain (x ∷ []) in
                let b : get_or (chain ++ x ∷ []) k d ≡ x = ap (λ j. get_or (chain ++ x ∷ []) j d) same ∙ get_or-append_seam chain x [] d in
                rw (a, b) (subst (λ cs. Follows cs (clause_of x) (hints_of x)) kept.all_is f)
          ];
      ends = (
        omega (arith, length_push chain x),
        λ d.
            let n : length (chain ++ x ∷ []) - 1 ≡ length chain = omega (arith, length_push chain x) in
            ap clause_of (ap (λ j. get_or (chain ++ x ∷ []) j d) n ∙ get_or-append_seam chain x [] d) ∙ e,
      );
    })

pub empty_part : (c : List ℕ) → IsPart c [] → c ≡ []
empty_part [] p = refl
empty_part (x ∷ c) p = absurd (false_is_true false refl (p x (or_left _ _ (eq-eqb x x refl))))

-- what is kept when the budget is spent
pub kept_spent : (given all : List (List ℕ)) (chain : List Derived) (budget : ℕ) → IsKept given all chain → NoneEmpty chain → length chain ≤ budget → budget ≤ length chain →
    IsSpent given budget chain
kept_spent given all chain budget kept none le ge = record {
  count = omega arith;
  lean = kept.lean;
  none_empty = none;
  new = λ k id d h i s. kept.new k id d h i (λ l. ap (λ cs. has (clause_at cs id) l) kept.all_is ∙ s l);
}

-- one more clause is kept
pub kept_step : (given all all2 : List (List ℕ)) (chain chain2 : List Derived) (x : Derived) (c h : List ℕ) → all2 ≡ all ++ c ∷ [] → chain2 ≡ chain ++ x ∷ [] → clause_of x ≡ c → hints_of x ≡ h →
    IsLean all c h → ((id : ℕ) → id < length all → AreSame (clause_at all id) c → ⊥) → IsKept given all chain → IsKept given all2 chain2
kept_step given all all2 chain chain2 x c h e f g i lean new kept =
    let cx : all2 ≡ all ++ clause_of x ∷ [] = e ∙ ap (λ d. all ++ d ∷ []) (sym g) in
    let lx : IsLean all (clause_of x) (hints_of x) = subst (IsLean all (clause_of x)) (sym i) (subst (λ d. IsLean all d h) (sym g) lean) in
    let nx : (id : ℕ) → id < length all → AreSame (clause_at all id) (clause_of x) → ⊥ = λ id lt s. new id lt (λ l. s l ∙ ap (λ d. has d l) g) in
    rw (cx, f) (kept_push given all chain x kept lx nx)

pub good_step : (given all : List (List ℕ)) (chain now : List Derived) (x : Derived) (c h : List ℕ) → IsKept given all chain → Follows all c h → c ≡ [] → clause_of x ≡ c → hints_of x ≡ h →
    now ≡ chain ++ x ∷ [] → IsGoodChain given now
good_step given all chain now x c h kept f e g i n =
    good_push given all chain now x kept (subst (Follows all (clause_of x)) (sym i) (subst (λ d. Follows all d h) (sym g) f)) (g ∙ e) n
