use Rattle.pe_rail_ops.proofs.Arithmetic.{sums_step, sums_all, sums_none}
use Rattle.pe_rail_ops.proofs.numbers.sums.Goals as goal

pub loop-i-preserved : goal.loop-i-preserved
loop-i-preserved c =
    let sum = c.in_ok-added.ensures.gives in
    let g = c.add_bits.new.graph in
    sums_step c.args.graph.now c.loop-i.graph g c.args.subtract c.args.a.now c.args.b.now _ _ c.loop-i.i c.loop-i.carry c.flip.result c.index-a-i.result c.index-b-i.result _ c.in_ok-added.added c.requires.widths c.requires.a_in c.requires.b_in c.loop-i-test.true c.index-a-i.is c.index-b-i.is
    (λ v. c.flip.ensures.value c.loop-i.graph v) (c.known.ensures.is_rail g sum.sum_in) (λ v. c.known.ensures.value g v) c.in_ok-push.ensures.ok c.loop-i.invariant sum

pub returns-clause-gives : goal.returns-clause-gives
returns-clause-gives c = sums_all _ _ c.args.subtract c.args.a.now c.args.b.now _ c.loop-i.i _ c.requires.widths c.loop-i-test.false c.loop-i.invariant

pub loop-i-init : goal.loop-i-init
loop-i-init c = rw c.new-sums.ensures (sums_none c.args.graph.now c.args.subtract c.args.a.now c.args.b.now _ c.graph_law.ensures c.truth-carry.ensures)
