use Rattle.pe_refute.specs.Follow.{denied}
use Rattle.pe_solver.proofs.Growth.{kept_step}
use Rattle.pe_solver.proofs.Walks.{leads_from}
use Rattle.pe_solver.proofs.lessons.keep.Goals as goal

pub returns-then-empty-clause-kept : goal.returns-then-empty-clause-kept
returns-then-empty-clause-kept c = λ given k.
    let lean = rw c.in-Some.is at c.in_ok-refine.ensures.refined in
    let new = rw c.deref.ensures.value at c.in-None-find_same.ensures.found in
    kept_step given c.args.all.now _ c.args.chain.now.items _ _ c.in-Some.f.clause.items c.in-Some.f.hints.items
    (rw c.deref-in-None-find_same.ensures.value at c.in_ok-push-in-None-find_same.ensures.ok) c.in_ok-push-in-None-find_same-2.ensures.items
    c.in_ok-d-in-None-find_same.ensures.clause c.in_ok-d-in-None-find_same.ensures.hints lean.lean new k

pub returns-clause-kept : goal.returns-clause-kept
returns-clause-kept c = λ given k.
    let lean = rw c.in-Some.is at c.in_ok-refine.ensures.refined in
    let new = rw c.deref.ensures.value at c.in-None-find_same.ensures.found in
    kept_step given c.args.all.now _ c.args.chain.now.items _ _ c.in-Some.f.clause.items c.in-Some.f.hints.items
    (rw c.deref-in-None-find_same.ensures.value at c.in_ok-push-in-None-find_same.ensures.ok) c.in_ok-push-in-None-find_same-2.ensures.items
    c.in_ok-d-in-None-find_same.ensures.clause c.in_ok-d-in-None-find_same.ensures.hints lean.lean new k

pub returns-in-None-clause-right : goal.returns-in-None-clause-right
returns-in-None-clause-right c = λ b f e.
    let none = rw c.in-None.is at c.in_ok-refine.ensures.none in
    none (leads_from c.args.all.now (denied c.args.clause.now) (denied c.args.clause.now) _ (λ l t. t) f)
