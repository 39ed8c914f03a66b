-- Chains of derived clauses.
use Rattle.std.specs.Prelude.{◌≡◌, ℕ, ◌-◌, ◌<◌, ◌++◌, List, [], length, take, map, slice_index_or}
use Rattle.pe_refute.specs.Follow.{Follows}
use Rattle.pe_refute.specs.declared.evidence.Derived.{Derived}

-- the literals of a derived clause
abbrev pub clause_of : Derived → List ℕ
clause_of d = d.clause.items

-- the numbers of the clauses along which it follows
abbrev pub hints_of : Derived → List ℕ
hints_of d = d.hints.items

-- the given clauses, and behind them those derived
abbrev pub all_clauses : List (List ℕ) → List Derived → List (List ℕ)
all_clauses given chain = given ++ map clause_of chain

-- each of the first n derived clauses follows from those with smaller numbers
abbrev pub DerivedUpTo : List (List ℕ) → List Derived → ℕ → Type 0
DerivedUpTo given chain n =
    (k : ℕ) (d : Derived) → k < n →
    Follows (all_clauses given (take k chain)) (clause_of (slice_index_or chain k d)) (hints_of (slice_index_or chain k d))

-- there is a last clause, and it is empty
abbrev pub EndsEmpty : List Derived → Type 0
EndsEmpty chain = (0 < length chain) × ((d : Derived) → clause_of (slice_index_or chain (length chain - 1) d) ≡ [])

-- a chain is good: each clause follows from those before it, and the last is empty
pub record IsGoodChain (given : List (List ℕ)) (chain : List Derived) : Type 0 where
  pub derived : DerivedUpTo given chain (length chain)
  pub ends : EndsEmpty chain
