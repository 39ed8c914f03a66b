use Rattle.std.proofs.Common.{arith}
use Rattle.pe_refute.specs.Known.{knows_of}
use Rattle.pe_solver.proofs.Enumerate.{denials_below}
use Rattle.pe_solver.proofs.Samples.{known_breaks}
use Rattle.pe_solver.proofs.Outcomes.{room_below}
use Rattle.pe_solver.proofs.outcome.confirmed.Goals as goal

pub refine-requires-clause-clause : goal.refine-requires-clause-clause
refine-requires-clause-clause c =
    rw (c.deref-2.ensures.value, c.in_ok-clause.ensures, c.deref.ensures.value) (denials_below _ c.args.own.now _ c.requires.leaves c.in_ok-prefix.ensures.prefix)

pub returns-clause-breaking : goal.returns-clause-breaking
returns-clause-breaking c =
    let ended = rw c.in-None.is at c.in_ok-refine.ensures.ended in
    let walk = rw (c.deref-2.ensures.value, c.in_ok-clause.ensures, c.deref.ensures.value, c.deref-3.ensures.value) at ended in
    let whole = c.in_ok-prefix.ensures.whole in
    let enough = room_below c.args.given.now c.requires.gated in
    known_breaks c.args.given.now c.args.all.now _ c.args.own.now _ _ (knows_of c.refine.new.scratch) _ c.requires.gated c.requires.given
    c.requires.leaves c.requires.named c.in_ok-prefix.ensures.prefix (omega arith) (c.in_ok-ids.ensures _ (rw c.count.ensures enough)) walk c.in_ok-bits-in-None.ensures
