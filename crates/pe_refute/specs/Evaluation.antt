-- The values of a cone's variables in a scratch.
use Rattle.std.specs.Prelude.{◌≡◌, ℕ, ◌<◌, ◌&&◌, Bool, true, false, List}
use Rattle.pe_graph.specs.Literals.{var_of, lit_of}
use Rattle.pe_cnf.specs.Clause.{literal_value}
use Rattle.pe_cnf.specs.Gates.{has_value, output_of, left_of, right_of}
use Rattle.pe_refute.specs.Known.{knows_of}
use Rattle.pe_refute.specs.Table.{Assigns}
use Rattle.pe_refute.specs.declared.scratch.Scratch.{Scratch}

-- a variable is 1 where its own literal is known
abbrev pub value_of : Scratch → ℕ → Bool
value_of s y = knows_of s (lit_of y false)

-- the constant and the leaves have their values, the first n gates those that their inputs give, and what has no value
-- yet is 0
pub record IsEvaluated (leaves : List (ℕ × ℕ)) (clauses : List (List ℕ)) (k n : ℕ) (w : ℕ → Bool) : Type 0 where
  pub constant : w 0 ≡ true
  pub leaves_are : Assigns leaves k w
  pub gates : (g : ℕ) → g < n → w (var_of (output_of clauses g)) ≡ (literal_value w (left_of clauses g) && literal_value w (right_of clauses g))
  pub fresh : (y : ℕ) → has_value leaves clauses n y ≡ false → w y ≡ false
