-- From evidence to the equality of a goal.
use Rattle.std.proofs.Common.{◌≡◌, ◌≢◌, ℕ, ◌+◌, ◌<◌, ◌≤◌, ◌⊎◌, ◌∙◌, ap, map, Bool, true, false, List, [], length, take, refl, inl, inr, arith}
use Rattle.std.proofs.lemmas.List.{get_or-take, length-take}
use Rattle.pe_cnf.specs.Clause.{Satisfies, clause_value, AllBelow}
use Rattle.pe_cnf.proofs.ConeLemmas.{all_append}
use Rattle.pe_cnf.specs.ClauseSet.{ClauseSet}
use Rattle.pe_graph.specs.Nodes.{value_in}
use Rattle.pe_cnf.proofs.Values.{cone_satisfied}
use Rattle.pe_refute.specs.Evidence.{ProvesGoal}
use Rattle.pe_refute.specs.Chain.{clause_of, all_clauses, IsGoodChain}
use Rattle.pe_refute.specs.Table.{IsTable}
use Rattle.pe_refute.specs.declared.evidence.Derived.{Derived}
use Rattle.pe_refute.proofs.ChainLaw.{chain_refutes}

same_or_not : (a b : Bool) → (a ≡ b) ⊎ (a ≢ b)
same_or_not true true = inl refl
same_or_not true false = inr (λ e. cc)
same_or_not false true = inr (λ e. cc)
same_or_not false false = inl refl

-- clauses that no assignment makes true prove the goal of their cone
pub refuted_proves : (set : ClauseSet) → ((w : ℕ → Bool) → Satisfies w set.clauses → ⊥) → ProvesGoal set
refuted_proves set none nodes goal width cited graph has_goal has_cited s true_cited v on =
    elim (same_or_not (value_in v nodes goal.a) (value_in v nodes goal.b)) [
      | inl e ↦ e
      | inr n ↦ let r = cone_satisfied s.0 s.1.0 nodes goal width cited set v graph has_goal has_cited s.1.1 true_cited on n in absurd (none r.0 r.1)
    ]

-- a chain proves it
pub chain_proves : (set : ClauseSet) (chain : List Derived) → IsGoodChain set.clauses chain → ProvesGoal set
chain_proves set chain good = refuted_proves set (chain_refutes set.clauses chain good)

lt_of_min : (id m : ℕ) (cs : List (List ℕ)) → id < length (take m cs) → (id < m) × (id < length cs)
lt_of_min id m cs h = let n = length-take m cs in (omega arith, omega arith)

front_true : (w : ℕ → Bool) (m : ℕ) (cs : List (List ℕ)) → Satisfies w cs → Satisfies w (take m cs)
front_true w m cs s id h =
    let r = lt_of_min id m cs h in
    ap (clause_value w) (get_or-take m cs id [] r.0) ∙ s id r.1

-- and so does a table
pub table_proves : (set : ClauseSet) → IsTable set → ProvesGoal set
table_proves set good = refuted_proves set (λ w s. good.none w (front_true w (set.gates + 3) set.clauses s))

-- more room
pub below_wider : (n m : ℕ) (clauses : List (List ℕ)) → n ≤ m → AllBelow n clauses → AllBelow m clauses
below_wider n m clauses h s id l q = let b = s id l q in omega arith

pub both_below : (n m : ℕ) (given : List (List ℕ)) (chain : List Derived) → n ≤ m → AllBelow n given → AllBelow m (map clause_of chain) → AllBelow m (all_clauses given chain)
both_below n m given chain h s t = all_append m given (map clause_of chain) (below_wider n m given h s) t
