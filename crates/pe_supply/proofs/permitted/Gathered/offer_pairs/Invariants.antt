use Rattle.std.specs.List.{flat_map, range_with_len}
use Rattle.pe_supply.specs.Gathering.{Offers}
use Rattle.pe_supply.specs.Steps.{is_permitted, every_step_from}
use Rattle.pe_supply.proofs.permitted.Gathered.offer_pairs.Given as goal

abbrev pub invariant-loop-p : goal.invariant-loop-p
invariant-loop-p l = Offers (is_permitted l.rows l.starts l.pairs) (flat_map (every_step_from l.count) (range_with_len 0 l.p)) l.initial.self l.self
