use Rattle.std.proofs.Common.{◌≡◌, ◌<◌, length, arith, ◌∙◌, ap}
use Rattle.pe_graph.proofs.Evaluation.{agrees_more}
use Rattle.pe_graph.proofs.graph.Graph.value.Goals as goal

pub loop-var-preserved : goal.loop-var-preserved
loop-var-preserved c =
    let last = c.loop-var-test.true in
    let inside = c.requires.lit_in in
    let lt : c.loop-var.var < length c.args.self.now = omega (arith, c.var-var-end.ensures) in
    let size : length c.loop-var.values ≡ length c.marks.inside.values.items = c.loop-var.auto.values ∙ ap length c.deref_mut.ensures.value in
    let view = c.marks.view_is in
    let enough = c.requires.room in
    let room : c.loop-var.var < length c.loop-var.values = omega arith in
    rw c.node_value-value.ensures (agrees_more _ c.args.self.now c.loop-var.values c.loop-var.var c.node.result c.graph_law.ensures lt room c.node.ensures.value c.loop-var.invariant)
