use Rattle.std.proofs.Common.{◌≡◌, ◌||◌, ℕ, List, drop}
use Rattle.pe_base.specs.Names.{has_name}
use Rattle.pe_instances.specs.Fit.{names_in}
use Rattle.pe_instances.proofs.fitting.names_of.Given as goal

abbrev pub invariant-loop-pair : goal.invariant-loop-pair
invariant-loop-pair l = (q : List ℕ) → (has_name l.set q || has_name (names_in (drop l.pair-index l.names)) q) ≡ has_name (names_in l.names) q
