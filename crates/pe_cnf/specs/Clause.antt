-- Clauses as lists of literals, and their values. A literal is twice its variable, and one more where it is negated.
use Rattle.std.specs.Prelude.{◌≡◌, ℕ, ◌<◌, ◌==◌, Bool, true, cond, not, List, [], length, slice_index_or}
use Rattle.std.specs.List.{list_any}
use Rattle.pe_graph.specs.Literals.{var_of, is_negated}

-- the clause has the literal
abbrev pub has : List ℕ → ℕ → Bool
has clause l = list_any (λ x. x == l) clause

-- the literal's value under an assignment of the variables
abbrev pub literal_value : (ℕ → Bool) → ℕ → Bool
literal_value w l = cond (is_negated l) (not (w (var_of l))) (w (var_of l))

-- some literal of the clause is true
abbrev pub clause_value : (ℕ → Bool) → List ℕ → Bool
clause_value w clause = list_any (literal_value w) clause

-- the clause of a number
abbrev pub clause_at : List (List ℕ) → ℕ → List ℕ
clause_at clauses id = slice_index_or clauses id []

-- each clause is true
abbrev pub Satisfies : (ℕ → Bool) → List (List ℕ) → Type 0
Satisfies w clauses = (id : ℕ) → id < length clauses → clause_value w (clause_at clauses id) ≡ true

-- each variable of the clause is below the limit
abbrev pub IsBelow : ℕ → List ℕ → Type 0
IsBelow limit clause = (l : ℕ) → has clause l ≡ true → var_of l < limit

-- each variable of each clause is
abbrev pub AllBelow : ℕ → List (List ℕ) → Type 0
AllBelow limit clauses = (id : ℕ) → IsBelow limit (clause_at clauses id)
