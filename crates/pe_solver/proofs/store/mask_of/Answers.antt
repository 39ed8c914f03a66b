use Rattle.std.proofs.Common.{◌≡◌, refl, sym, get_or}
use Rattle.std.proofs.lemmas.List.{get_or_read}
use Rattle.pe_solver.proofs.MaskLemmas.{mask_next}
use Rattle.pe_solver.proofs.store.mask_of.Goals as goal

pub loop-l-preserved : goal.loop-l-preserved
loop-l-preserved c =
    let item : c.l-item.result ≡ get_or c.args.clause.now c.loop-l.l-index 0 = get_or_read c.args.clause.now c.loop-l.l-index _ c.loop-l-test.true c.l-item.is 0 in
    rw c.code.ensures (mask_next c.args.clause.now c.loop-l.l-index _ c.loop-l.mask _ c.loop-l-test.true (sym item) refl c.loop-l.invariant)
