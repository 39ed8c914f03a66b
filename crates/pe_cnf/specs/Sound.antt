-- What holds of each set of clauses.
use Rattle.std.specs.Prelude.{ℕ, ◌<◌, IsTrue, is_some, length}
use Rattle.pe_cnf.specs.Clause.{AllBelow}
use Rattle.pe_cnf.specs.ClauseSet.{ClauseSet, leaf_var}
use Rattle.pe_cnf.specs.Gates.{IsGated}

-- the variables are below `vars`, and with a goal the clauses begin with gates
pub record IsSound (set : ClauseSet) : Type 0 where
  pub below : AllBelow set.vars set.clauses
  pub leaves_below : (i : ℕ) → i < length set.leaves → leaf_var set.leaves i < set.vars
  pub gated : IsTrue (is_some set.goal) → IsGated set
