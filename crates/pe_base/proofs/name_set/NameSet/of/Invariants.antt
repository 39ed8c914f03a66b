use Rattle.std.proofs.Common.{◌≡◌, ◌||◌, ℕ, List, drop}
use Rattle.pe_base.specs.Names.{has_name}
use Rattle.pe_base.proofs.name_set.NameSet.of.Given as goal

abbrev pub invariant-loop-name : goal.invariant-loop-name
invariant-loop-name l = (q : List ℕ) → (has_name l.set q || has_name (drop l.name-index l.names) q) ≡ has_name l.names q
