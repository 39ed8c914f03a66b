use Rattle.std.proofs.Common.{◌≡◌, ℕ, ◌<◌, slice_index}
use Rattle.pe_supply.specs.Forests.{IsForest, root_of, roots_of}
use Rattle.pe_supply.proofs.numbers.flatten.Given as goal

abbrev pub invariant-loop-k : goal.invariant-loop-k
invariant-loop-k l = record { forest : IsForest l.above; same : roots_of l.above ≡ roots_of l.initial.above; flat : (j : ℕ) → j < l.k → slice_index l.above j ≡ root_of l.above j }
