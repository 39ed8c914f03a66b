use Rattle.std.proofs.Common.{refl, ◌∙◌, false}
use Rattle.std.proofs.lemmas.Bool.{eqb-true, eq-eqb}
use Rattle.pe_refute.specs.Known.{knows_of}
use Rattle.pe_refute.specs.Chain.{all_clauses}
use Rattle.pe_refute.proofs.Walk.{stops_answer, conflict_answer, unit_answer, false_is_true}
use Rattle.pe_refute.proofs.follow.follows.Goals as goal

pub returns-in-Neither-clause-follows : goal.returns-in-Neither-clause-follows
returns-in-Neither-clause-follows c = (
  λ t. absurd (false_is_true false refl t),
  λ p. absurd (stops_answer (all_clauses c.args.given.now.clauses c.args.earlier.now) (knows_of c.loop-i.scratch) _ _ c.loop-i.i _ c.loop-i.invariant.same
      c.loop-i-test.true refl c.in-Some.ensures.1 (c.in-Neither.ensures) p),
)

pub returns-in-Conflict-clause-follows : goal.returns-in-Conflict-clause-follows
returns-in-Conflict-clause-follows c =
    let a = conflict_answer (all_clauses c.args.given.now.clauses c.args.earlier.now) (knows_of c.loop-i.scratch) _ _ c.loop-i.i _ c.loop-i.invariant.same
    c.loop-i-test.true refl c.in-Some.ensures.0 c.in-Some.ensures.1 (c.in-Conflict.ensures) in
    (λ t. a.0 (eqb-true _ _ t), λ p. eq-eqb _ _ (a.1 p))

pub loop-i-preserved : goal.loop-i-preserved
loop-i-preserved c = record {
  same = unit_answer (all_clauses c.args.given.now.clauses c.args.earlier.now) (knows_of c.loop-i.scratch) (knows_of c.mark.new.self) _ _ c.loop-i.i _ c.in-Unit.l
      c.loop-i.invariant.same c.loop-i-test.true refl c.in-Some.ensures.0 c.in-Some.ensures.1 (c.in-Unit.ensures) c.mark.ensures.known;
  room = c.mark.ensures.room ∙ c.loop-i.invariant.room;
}
