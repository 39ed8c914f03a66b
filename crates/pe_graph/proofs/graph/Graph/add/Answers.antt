use Rattle.std.proofs.Common.{◌≡◌, ◌≤◌, ◌++◌, ◌∷◌, [], arith, length, ◌∙◌, ap}
use Rattle.std.proofs.lemmas.List.{length_push}
use Rattle.pe_graph.proofs.TableLemmas.{linked_front}
use Rattle.pe_graph.proofs.Growth.{added_gives}
use Rattle.pe_graph.proofs.graph.Graph.add.Goals as goal

pub link-requires-clause-before : goal.link-requires-clause-before
link-requires-clause-before c =
    let items = c.self.inside.nodes.items in
    let new : c.deref-2.result.now ≡ items ++ c.args.node ∷ [] = c.deref-2.ensures.value ∙ c.in_ok-push.ensures.items in
    let n = length_push items c.args.node in
    let size : c.len-var.result ≡ length items = c.len-var.ensures ∙ c.self.inside.nodes.ok.0 in
    let room = c.in_ok-reserve.ensures.room in
    rw size (linked_front items (c.args.node ∷ []) _ _ _ (rw c.deref.ensures.value at c.in_ok-reserve.ensures.linked) new
    (let fits : length (items ++ c.args.node ∷ []) ≤ length c.reserve.new.self.earlier.items = omega (arith, rw c.deref.ensures.value at room) in rw new fits))

pub returns-clause-gives : goal.returns-clause-gives
returns-clause-gives c =
    let old = c.self.view_is in
    added_gives _ _ c.args.node c.len-var.result c.of.result (c.in_ok-push.ensures.items ∙ ap (λ xs. xs ++ c.args.node ∷ []) old) (c.len-var.ensures ∙ c.self.inside.nodes.ok.0 ∙ ap length old) c.of.ensures
