use Rattle.std.proofs.Common.{length, arith, ◌∙◌, length-append, ap}
use Rattle.pe_solver.proofs.Growth.{good_step, empty_part, kept_spent}
use Rattle.pe_solver.proofs.Outcomes.{ids_enough}
use Rattle.pe_solver.proofs.outcome.finish.Goals as goal

pub close-requires-clause-ids : goal.close-requires-clause-ids
close-requires-clause-ids c =
    let enough = ids_enough c.args.given.now c.args.all c.args.chain.items c.requires.gated c.requires.kept in
    rw c.deref.ensures.value (c.in_ok-ids.ensures _ (rw c.count.ensures enough))

pub returns-then-len-budget-clause-answer : goal.returns-then-len-budget-clause-answer
returns-then-len-budget-clause-answer c =
    let closed = rw c.in-By.is at c.in_ok-f.ensures.closed in
    let kept = c.in_ok-f.ensures.kept c.args.given.now.clauses c.requires.kept in
    let within = c.requires.within in
    let ge = c.if-len-budget.true in
    let len = c.len.ensures ∙ c.close.new.chain.ok.0 in
    kept_spent c.args.given.now.clauses _ c.close.new.chain.items c.args.budget kept (closed.0.none_empty c.requires.none_empty) (closed.0.within (omega arith)) (omega arith)

pub returns-in-By-clause-answer : goal.returns-in-By-clause-answer
returns-in-By-clause-answer c =
    let closed = rw c.in-By.is at c.in_ok-f.ensures.closed in
    let kept = c.in_ok-f.ensures.kept c.args.given.now.clauses c.requires.kept in
    let items = c.in_ok-push-in-By.ensures.items in (
      good_step c.args.given.now.clauses c.close.new.all c.close.new.chain.items _ _ _ _ kept closed.1 (empty_part _ closed.2) c.in_ok-d-in-By.ensures.clause c.in_ok-d-in-By.ensures.hints items,
      omega (arith, c.if-len-budget.false, c.len.ensures ∙ c.close.new.chain.ok.0, ap length items ∙ length-append c.close.new.chain.items _),
    )

pub returns-in-Spent-clause-answer : goal.returns-in-Spent-clause-answer
returns-in-Spent-clause-answer c =
    let closed = rw c.in-Spent.is at c.in_ok-f.ensures.closed in
    let kept = c.in_ok-f.ensures.kept c.args.given.now.clauses c.requires.kept in
    let within = c.requires.within in
    kept_spent c.args.given.now.clauses _ c.close.new.chain.items c.args.budget kept (closed.0.none_empty c.requires.none_empty) (closed.0.within (omega arith)) closed.1

pub sample-requires-clause-breaking : goal.sample-requires-clause-breaking
sample-requires-clause-breaking c =
    let closed = rw c.in-Sample.is at c.in_ok-f.ensures.closed in
    rw c.deref-in-Sample.ensures.value closed.1
