use Rattle.std.proofs.Common.{◌≡◌, [], length, refl, subst, rules}
use Rattle.std.specs.Prelude.{filter}
use Rattle.std.specs.List.{flat_map, range_with_len}
use Rattle.pe_supply.specs.Gathering.{IsGathered}
use Rattle.pe_supply.specs.Steps.{is_permitted, every_start, every_step_from, every_step}
use Rattle.pe_supply.proofs.Gatherings.{offers_both}
use Rattle.pe_supply.proofs.permitted.gather.Goals as goal

pub returns : goal.returns
returns c =
    let rule = is_permitted c.args.rows.now c.args.starts.now c.args.pairs.now in
    let n = c.in-Ok.count in
    let size : c.in-Ok.count ≡ length c.args.rows.now = search rules in
    let both = offers_both rule (every_start n) (flat_map (every_step_from n) (range_with_len 0 n)) _ _ _ c.in_ok-offer_starts.ensures c.in_ok-offer_pairs.ensures in
    subst (λ m. IsGathered (filter rule (every_step m)) c.offer_pairs.new.self) size (both.each [] (record { count = refl; kept = λ few. c.new.ensures }))
