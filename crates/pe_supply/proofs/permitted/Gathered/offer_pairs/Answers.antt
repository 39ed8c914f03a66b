use Rattle.std.proofs.Common.{sym, subst}
use Rattle.std.specs.List.{flat_map, range_with_len}
use Rattle.pe_supply.specs.Gathering.{Offers}
use Rattle.pe_supply.specs.Steps.{is_permitted, every_step_from}
use Rattle.pe_supply.proofs.Gatherings.{offers_both, flat_more}
use Rattle.pe_supply.proofs.permitted.Gathered.offer_pairs.Goals as goal

pub loop-p-preserved : goal.loop-p-preserved
loop-p-preserved c =
    let rule = is_permitted c.args.rows.now c.args.starts.now c.args.pairs.now in
    let from = every_step_from c.args.count in
    subst (λ steps. Offers rule steps c.args.self.now c.offer_from.new.self) (sym (flat_more from c.loop-p.p))
    (offers_both rule (flat_map from (range_with_len 0 c.loop-p.p)) (from c.loop-p.p) c.args.self.now c.loop-p.self c.offer_from.new.self c.loop-p.invariant c.in_ok-offer_from.ensures)
