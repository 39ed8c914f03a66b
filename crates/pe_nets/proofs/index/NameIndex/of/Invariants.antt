use Rattle.std.proofs.Common.{◌≡◌, take, drop}
use Rattle.pe_base.specs.Names.{are_distinct}
use Rattle.pe_nets.proofs.Indexes.{are_new}
use Rattle.pe_nets.proofs.index.NameIndex.of.Given as goal

abbrev pub invariant-loop-name : goal.invariant-loop-name
invariant-loop-name l = (l.index ≡ take l.name-index l.names) × (are_new l.index (drop l.name-index l.names) ≡ are_distinct l.names)
