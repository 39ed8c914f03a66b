use Rattle.std.proofs.Common.{◌≡◌, get_or}
use Rattle.std.proofs.lemmas.List.{get_or_read}
use Rattle.pe_refute.proofs.Sight.{has_at}
use Rattle.pe_solver.proofs.lean.mark_all.Goals as goal

pub mark-requires : goal.mark-requires
mark-requires c =
    let item : c.l-item.result ≡ get_or c.args.clause.now c.loop-l.l-index 0 = get_or_read c.args.clause.now c.loop-l.l-index _ c.loop-l-test.true c.l-item.is 0 in
    rw (c.loop-l.invariant.room, item) (c.requires _ (has_at c.args.clause.now c.loop-l.l-index c.loop-l-test.true))
