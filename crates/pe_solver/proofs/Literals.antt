-- Literals and their complements.
use Rattle.std.proofs.Common.{◌≡◌, ◌≢◌, ℕ, ◌⊎◌, true, false, arith}
use Rattle.pe_graph.specs.Literals.{var_of, complement_of, lit_of}

pub complement_twice : (l : ℕ) → complement_of (complement_of l) ≡ l
complement_twice l = grind arith

pub complement_apart : (l : ℕ) → complement_of l ≢ l
complement_apart l = grind arith

-- a literal is its variable's own, or the complement of that
pub own_or_not : (l : ℕ) → (l ≡ lit_of (var_of l) false) ⊎ (l ≡ lit_of (var_of l) true)
own_or_not l = grind arith

pub complement_own : (y : ℕ) → complement_of (lit_of y false) ≡ lit_of y true
complement_own y = grind arith

pub complement_not_own : (y : ℕ) → complement_of (lit_of y true) ≡ lit_of y false
complement_not_own y = grind arith
