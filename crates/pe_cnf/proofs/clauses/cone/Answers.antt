use Rattle.std.proofs.Common.{sym, subst}
use Rattle.pe_cnf.specs.Cone.{HasLeaves}
use Rattle.pe_cnf.specs.Marks.{mark_of, entry_of}
use Rattle.pe_cnf.proofs.LeafLemmas.{leaves_within}
use Rattle.pe_cnf.proofs.ConeLemmas.{made_cone}
use Rattle.pe_cnf.proofs.Soundness.{cone_sound}
use Rattle.pe_cnf.proofs.clauses.cone.Goals as goal

pub cone_leaves-requires-clause-width : goal.cone_leaves-requires-clause-width
cone_leaves-requires-clause-width c = subst (HasLeaves c.args.job.now.graph) (sym c.len-width.ensures) (leaves_within c.args.job.now.graph _ c.args.job.now.leaf_each)

pub invariant_of-result : goal.invariant_of-result
invariant_of-result c =
    cone_sound (mark_of c.as_slice-marks.result.now) (entry_of c.as_slice-numbers.result.now) c.args.job.now.graph c.args.goal c.len-width.result c.args.cited.now _ c.graph_law.ensures c.requires.goal c.requires.cited
    (made_cone c.args.job.now.graph c.args.goal c.len-width.result c.args.cited.now c.in_ok-marks.marks c.as_slice-marks.result.now c.in_ok-numbers.numbers.items c.as_slice-numbers.result.now c.in_ok-leaves.leaves.items c.truth.result c.count-gates.result c.new-list.result c.push.new.self c.push_gates.new.list c.push_goal.new.list c.push_cited.new.list c.in_ok-marks.ensures.room c.in_ok-marks.ensures.marked c.as_slice-marks.ensures c.as_slice-numbers.ensures.value c.in_ok-numbers.ensures.numbers c.in_ok-leaves.ensures c.new-list.ensures c.truth.ensures c.in_ok-push.ensures.ok c.in_ok-push_gates.ensures c.count-gates.ensures c.in_ok-push_goal.ensures c.in_ok-push_cited.ensures)

pub returns : goal.returns
returns c = (
  mark_of c.as_slice-marks.result.now,
  (
    entry_of c.as_slice-numbers.result.now,
    rw (← c.len-width.ensures) (made_cone c.args.job.now.graph c.args.goal c.len-width.result c.args.cited.now c.in_ok-marks.marks c.as_slice-marks.result.now c.in_ok-numbers.numbers.items c.as_slice-numbers.result.now c.in_ok-leaves.leaves.items c.truth.result c.count-gates.result c.new-list.result c.push.new.self c.push_gates.new.list c.push_goal.new.list c.push_cited.new.list c.in_ok-marks.ensures.room c.in_ok-marks.ensures.marked c.as_slice-marks.ensures c.as_slice-numbers.ensures.value c.in_ok-numbers.ensures.numbers c.in_ok-leaves.ensures c.new-list.ensures c.truth.ensures c.in_ok-push.ensures.ok c.in_ok-push_gates.ensures c.count-gates.ensures c.in_ok-push_goal.ensures c.in_ok-push_cited.ensures),
  ),
)
