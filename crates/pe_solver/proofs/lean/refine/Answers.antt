use Rattle.std.proofs.Common.{◌∙◌, ap, ◌&&◌}
use Rattle.pe_cnf.specs.Clause.{has}
use Rattle.pe_refute.specs.Follow.{denied}
use Rattle.pe_refute.specs.Known.{knows_of}
use Rattle.pe_solver.specs.Lean.{mentions, IsKnownPart}
use Rattle.pe_solver.proofs.Idle.{refined, part_of, tight_same}
use Rattle.pe_solver.proofs.lean.refine.Goals as goal

pub returns-in_ok-clause-in-Some-clause-refined : goal.returns-in_ok-clause-in-Some-clause-refined
returns-in_ok-clause-in-Some-clause-refined c =
    let all = c.args.all.now in
    let hints = c.in_ok-hints-in-Some.hints.items in
    let trace = rw c.in-Some.is at c.in_ok-walk.ensures.trace in
    let tight = c.in_ok-hints-in-Some.ensures.tight (knows_of c.deny.new.scratch) trace in
    let denied_tight = tight_same all (knows_of c.deny.new.scratch) (denied c.args.clause.now) hints c.deny.ensures.known tight in
    let some = c.in_ok-some-in-Some.ensures.part in
    let once = c.in_ok-clause-in-Some.ensures in
    let mentioned : IsKnownPart (mentions all hints) c.args.clause.now c.in_ok-clause-in-Some.clause.items = record {
      same = λ l.
          once.same l ∙ ap (λ x. has x l) c.deref.ensures.value ∙ some l ∙ ap (λ b. has c.args.clause.now l && b) (c.in_ok-hints-in-Some.ensures.mentions l);
      distinct = once.distinct;
    } in
    record {
      lean = refined all c.args.clause.now _ hints mentioned denied_tight;
      part = part_of (mentions all hints) c.args.clause.now _ mentioned;
    }
