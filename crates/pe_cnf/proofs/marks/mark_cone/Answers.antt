use Rattle.std.proofs.Common.{◌∙◌}
use Rattle.pe_cnf.specs.Marks.{mark_of}
use Rattle.pe_cnf.proofs.MarkLemmas.{cone_marked, start_marks}
use Rattle.pe_cnf.proofs.marks.mark_cone.Goals as goal

pub returns-clause-marked : goal.returns-clause-marked
returns-clause-marked c =
    cone_marked c.args.graph.now c.args.goal.now (mark_of c.mark-3.new.marks) (mark_of c.spread.new.marks)
    (start_marks c.nodes.result c.from_vec-marks.result c.mark.new.marks c.mark-2.new.marks c.mark-3.new.marks _ _ _ _ _ _ (c.from_vec-marks.ensures ∙ c.in_ok-vec.ensures.items_if_clones_equal (λ y e. e)) c.var.ensures c.var-2.ensures c.var-3.ensures c.mark.ensures.marked c.mark-2.ensures.marked c.mark-3.ensures.marked)
    c.spread.ensures.spread
