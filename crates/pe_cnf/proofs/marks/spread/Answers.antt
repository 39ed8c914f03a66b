use Rattle.std.proofs.Common.{◌≡◌, ◌+◌, ◌-◌, rules, ◌∙◌, arith}
use Rattle.pe_cnf.specs.Marks.{mark_of}
use Rattle.pe_cnf.proofs.MarkLemmas.{spread_none, spread_skip, spread_step}
use Rattle.pe_cnf.proofs.marks.spread.Goals as goal

pub loop-left-init : goal.loop-left-init
loop-left-init c = record {
  room = search rules;
  within = omega arith;
  spreads = spread_none _ _ _ (c.len-left.ensures ∙ c.requires);
}

pub loop-left-preserved-then-as_slice-left : goal.loop-left-preserved-then-as_slice-left
loop-left-preserved-then-as_slice-left c =
    let next : c.loop-left.left ≡ (c.loop-left.left - 1) + 1 = omega arith in
    record {
      room = c.mark_inputs.ensures.room ∙ c.loop-left.invariant.room;
      within = omega arith;
      spreads = spread_step c.args.graph.now (c.loop-left.left - 1) c.loop-left.left c.node.result _ (mark_of c.loop-left.marks) _ next c.node.ensures.value c.node.ensures.below (rw c.as_slice.ensures at c.if-as_slice-left.true) c.mark_inputs.ensures.marked c.loop-left.invariant.spreads;
    }

pub loop-left-preserved : goal.loop-left-preserved
loop-left-preserved c =
    let next : c.loop-left.left ≡ (c.loop-left.left - 1) + 1 = omega arith in
    record {
      room = c.loop-left.invariant.room;
      within = omega arith;
      spreads = spread_skip c.args.graph.now (c.loop-left.left - 1) c.loop-left.left _ (mark_of c.loop-left.marks) next (rw c.as_slice.ensures at c.if-as_slice-left.false) c.loop-left.invariant.spreads;
    }
