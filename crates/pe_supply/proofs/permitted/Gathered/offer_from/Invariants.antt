use Rattle.pe_supply.specs.Gathering.{Offers}
use Rattle.pe_supply.specs.Steps.{is_permitted, every_step_from}
use Rattle.pe_supply.proofs.permitted.Gathered.offer_from.Given as goal

abbrev pub invariant-loop-q : goal.invariant-loop-q
invariant-loop-q l = Offers (is_permitted l.rows l.starts l.pairs) (every_step_from l.q l.p) l.initial.self l.self
