use Rattle.std.proofs.Common.{take}
use Rattle.pe_supply.specs.Forests.{IsForest, roots_of}
use Rattle.pe_supply.specs.Labels.{AreLabelled}
use Rattle.pe_supply.proofs.numbers.label.Given as goal

abbrev pub invariant-loop-tie : goal.invariant-loop-tie
invariant-loop-tie l = record { forest : IsForest l.above.items; labelled : AreLabelled l.names (take l.tie-index l.ties) (roots_of l.above.items) }
