use Rattle.std.proofs.Common.{[], ◌∷◌, sym, subst, arith}
use Rattle.std.proofs.lemmas.List.FromFn.{map-range_with_len_more}
use Rattle.pe_base.specs.declared.text.Step.TheVariants.{Start}
use Rattle.pe_supply.specs.Gathering.{Offers}
use Rattle.pe_supply.specs.Steps.{is_permitted, every_start}
use Rattle.pe_supply.proofs.Gatherings.{offers_both}
use Rattle.pe_supply.proofs.permitted.Gathered.offer_starts.Goals as goal

pub loop-q-preserved : goal.loop-q-preserved
loop-q-preserved c =
    let rule = is_permitted c.args.rows.now c.args.starts.now c.args.pairs.now in
    let next = map-range_with_len_more (λ q. Start q) 0 c.loop-q.q c.loop-q.q (omega arith) in
    subst (λ steps. Offers rule steps c.args.self.now c.offer.new.self) (sym next)
    (offers_both rule (every_start c.loop-q.q) (Start c.loop-q.q ∷ []) c.args.self.now c.loop-q.self c.offer.new.self c.loop-q.invariant c.in_ok-offer.ensures)
