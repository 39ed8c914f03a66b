use Rattle.std.proofs.Common.{◌≡◌, ◌<◌, length}
use Rattle.pe_supply.specs.Forests.{IsForest, root_of, roots_of}
use Rattle.pe_supply.proofs.numbers.root.Given as goal

abbrev pub invariant-loop-above : goal.invariant-loop-above
invariant-loop-above l = record { forest : IsForest l.above; inside : l.k < length l.above; same : roots_of l.above ≡ roots_of l.initial.above; root : root_of l.above l.k ≡ root_of l.initial.above l.place }

abbrev pub decreases-loop-above : goal.decreases-loop-above
decreases-loop-above l = l.k
