use Rattle.std.proofs.Common.{◌≡◌, drop}
use Rattle.pe_base.specs.Names.{HasSameNames}
use Rattle.pe_supply.specs.Numbers.{with_new, distinct}
use Rattle.pe_supply.proofs.numbers.distinct.Given as goal

abbrev pub invariant-loop-name : goal.invariant-loop-name
invariant-loop-name l = record { same : HasSameNames l.seen l.once; so_far : with_new l.once (drop l.name-index l.names) ≡ distinct l.names }
