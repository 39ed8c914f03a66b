use Rattle.std.proofs.Common.{sym}
use Rattle.pe_cnf.specs.Marks.{entry_of}
use Rattle.pe_cnf.proofs.MarkLemmas.{cites_at}
use Rattle.pe_cnf.proofs.ConeLemmas.{cited_more}
use Rattle.pe_cnf.proofs.gates.push_cited.Goals as goal

pub literal-a-requires-clause-within : goal.literal-a-requires-clause-within
literal-a-requires-clause-within c = c.requires.within _ (cites_at c.args.cited.now c.loop-e.e-index c.e-item.result c.loop-e-test.true (sym c.e-item.is)).0

pub literal-b-requires-clause-within : goal.literal-b-requires-clause-within
literal-b-requires-clause-within c = c.requires.within _ (cites_at c.args.cited.now c.loop-e.e-index c.e-item.result c.loop-e-test.true (sym c.e-item.is)).1

pub loop-e-preserved : goal.loop-e-preserved
loop-e-preserved c =
    let first = rw (c.complement.ensures, c.literal-a.ensures, c.literal-b.ensures) at c.in_ok-push.ensures.ok in
    let second = rw (c.complement-in-loop-e.ensures, c.literal-a.ensures, c.literal-b.ensures) at c.in_ok-push-2.ensures.ok in
    cited_more (entry_of c.args.numbers.now) c.args.cited.now c.loop-e.e-index c.e-item.result c.args.list.now c.loop-e.list _ _ c.loop-e-test.true (sym c.e-item.is) c.loop-e.invariant first second
