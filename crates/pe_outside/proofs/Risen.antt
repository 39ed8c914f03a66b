-- That a count rose survives calls before and after it.
use Rattle.std.proofs.Common.{◌≤◌, ℕ, arith}
use Rattle.pe_outside.specs.Outside.{HasRisen}

-- A count that rose goes on having risen.
pub risen_then : (a b c : ℕ) → HasRisen a b → b ≤ c → HasRisen a c
risen_then a b c risen later = omega arith

pub then_risen : (a b c : ℕ) → a ≤ b → HasRisen b c → HasRisen a c
then_risen a b c later risen = omega arith
