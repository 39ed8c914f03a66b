use Rattle.std.proofs.Common.{[], ◌∷◌, sym, subst, arith}
use Rattle.std.proofs.lemmas.List.FromFn.{map-range_with_len_more}
use Rattle.pe_base.specs.declared.text.Step.TheVariants.{Pair}
use Rattle.pe_supply.specs.Gathering.{Offers}
use Rattle.pe_supply.specs.Steps.{is_permitted, every_step_from}
use Rattle.pe_supply.proofs.Gatherings.{offers_both}
use Rattle.pe_supply.proofs.permitted.Gathered.offer_from.Goals as goal

pub loop-q-preserved : goal.loop-q-preserved
loop-q-preserved c =
    let rule = is_permitted c.args.rows.now c.args.starts.now c.args.pairs.now in
    let next = map-range_with_len_more (λ q. Pair c.args.p q) 0 c.loop-q.q c.loop-q.q (omega arith) in
    subst (λ steps. Offers rule steps c.args.self.now c.offer.new.self) (sym next)
    (offers_both rule (every_step_from c.loop-q.q c.args.p) (Pair c.args.p c.loop-q.q ∷ []) c.args.self.now c.loop-q.self c.offer.new.self c.loop-q.invariant c.in_ok-offer.ensures)
