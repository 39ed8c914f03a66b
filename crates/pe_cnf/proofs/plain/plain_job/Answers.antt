use Rattle.std.proofs.Common.{arith, sym, subst}
use Rattle.pe_cnf.specs.Cone.{HasLeaves, HasJust}
use Rattle.pe_cnf.proofs.MarkLemmas.{not_both}
use Rattle.pe_cnf.proofs.LeafLemmas.{leaves_within, has_just}
use Rattle.pe_cnf.proofs.plain.plain_job.Goals as goal

pub returns-then-not-has_leaves : goal.returns-then-not-has_leaves
returns-then-not-has_leaves c = λ j.
    let below = subst (HasLeaves c.args.graph) (sym c.len-count.ensures) (leaves_within c.args.graph _ j) in
    absurd (not_both c.has_leaves.result (c.has_leaves.ensures.1 below) c.if-not-has_leaves.true)

pub returns-then-not-has_each : goal.returns-then-not-has_each
returns-then-not-has_each c = λ j. absurd (not_both c.has_each.result (c.has_each.ensures.1 (λ k lt. (j k).1 (omega arith))) c.if-not-has_each.true)

pub with-requires-clause-leaf_each : goal.with-requires-clause-leaf_each
with-requires-clause-leaf_each c =
    subst (HasJust c.args.graph) c.len-count.ensures
    (has_just c.args.graph c.len-count.result (c.has_leaves.ensures.0 c.if-not-has_leaves.false) (c.has_each.ensures.0 c.if-not-has_each.false))
