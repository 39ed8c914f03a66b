-- What equalities and goals say of a graph.
use Rattle.std.specs.Prelude.{◌≡◌, ℕ, ◌⊎◌, Bool, true, List, [], ◌∷◌}
use Rattle.pe_graph.specs.declared.graph.Node.{Node}
use Rattle.pe_graph.specs.Literals.{truth_of}
use Rattle.pe_graph.specs.Nodes.{value_in}
use Rattle.pe_graph.specs.declared.job.Goal.{Goal}
use Rattle.pe_cnf.specs.declared.equality.Equality.{Equality}

-- under the assignment v, the two literals are equal if the context is 1
abbrev pub AreEqualAt : (ℕ → Bool) → List Node → ℕ → ℕ → ℕ → Type 0
AreEqualAt v nodes ctx a b = value_in v nodes ctx ≡ true → value_in v nodes a ≡ value_in v nodes b

-- an equality holds under each assignment of the leaves
abbrev pub Holds : List Node → Equality → Type 0
Holds nodes e = (v : ℕ → Bool) → AreEqualAt v nodes e.ctx e.a e.b

-- and a goal does
abbrev pub IsProved : List Node → Goal → Type 0
IsProved nodes goal = (v : ℕ → Bool) → AreEqualAt v nodes goal.ctx goal.a goal.b

-- the cited equalities hold, and each is of the context or of the constant true
abbrev pub AreTrue : List Node → ℕ → List Equality → Type 0
AreTrue nodes ctx [] = Unit {0}
AreTrue nodes ctx (e ∷ cited) = ((e.ctx ≡ ctx) ⊎ (e.ctx ≡ truth_of true)) × Holds nodes e × AreTrue nodes ctx cited
