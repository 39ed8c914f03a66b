use Rattle.std.proofs.Common.{sym}
use Rattle.pe_cnf.proofs.MarkLemmas.{cites_at}
use Rattle.pe_cnf.proofs.marks.mark_used.Goals as goal

pub mark-requires-in-loop-e : goal.mark-requires-in-loop-e
mark-requires-in-loop-e c =
    let h = c.requires.within _ (cites_at c.args.cited.now c.loop-e.e-index c.e-item.result c.loop-e-test.true (sym c.e-item.is)).1 in
    rw (c.var.ensures, c.loop-e.invariant.room) h

pub mark-requires-in-loop-e-2 : goal.mark-requires-in-loop-e-2
mark-requires-in-loop-e-2 c =
    let h = c.requires.within _ (cites_at c.args.cited.now c.loop-e.e-index c.e-item.result c.loop-e-test.true (sym c.e-item.is)).0 in
    rw (c.var-in-loop-e.ensures, c.mark-in-loop-e.ensures.room, c.loop-e.invariant.room) h
