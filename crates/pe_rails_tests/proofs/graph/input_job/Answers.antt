use Rattle.std.proofs.Common.{◌≡◌, ◌∷◌, [], length, refl, ap, arith}
use Rattle.pe_graph.specs.declared.graph.Node.TheVariants.{True, Leaf}
use Rattle.pe_rails_tests.proofs.SmallJob.{two_nodes, one_leaf, small_goals}
use Rattle.pe_rails_tests.proofs.graph.input_job.Goals as goal

pub with-requires-clause-leaf_each : goal.with-requires-clause-leaf_each
with-requires-clause-leaf_each c =
    let old = ap length c.in_ok-graph.ensures in
    let few = c.in_ok-input.ensures.few in
    let nodes : c.leaf.new.self ≡ True ∷ Leaf 0 ∷ [] = two_nodes c.leaf.new.self c.in_ok-input.input c.graph_law.ensures c.in_ok-input.ensures.stands (omega arith) in
    λ k. rw (nodes, c.in_ok-leaves.ensures) (one_leaf k)

pub with-requires-clause-small_cones : goal.with-requires-clause-small_cones
with-requires-clause-small_cones c =
    let old = ap length c.in_ok-graph.ensures in
    let few = c.in_ok-input.ensures.few in
    let nodes : c.leaf.new.self ≡ True ∷ Leaf 0 ∷ [] = two_nodes c.leaf.new.self c.in_ok-input.input c.graph_law.ensures c.in_ok-input.ensures.stands (omega arith) in
    rw nodes (small_goals c.in_ok-goals.goals _ c.in_ok-goals.ensures refl)
