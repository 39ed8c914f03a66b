use Rattle.pe_supply.specs.Gathering.{Offers}
use Rattle.pe_supply.specs.Steps.{is_permitted, every_start}
use Rattle.pe_supply.proofs.permitted.Gathered.offer_starts.Given as goal

abbrev pub invariant-loop-q : goal.invariant-loop-q
invariant-loop-q l = Offers (is_permitted l.rows l.starts l.pairs) (every_start l.q) l.initial.self l.self
