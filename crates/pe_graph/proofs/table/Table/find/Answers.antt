use Rattle.std.proofs.Common.{◌≡◌, ◌≢◌, ◌-◌, ◌<◌, arith, length, ◌∙◌, ap, rules}
use Rattle.std.proofs.lemmas.List.{get_or_read}
use Rattle.pe_graph.specs.declared.graph.Node.TheVariants.{True}
use Rattle.pe_graph.specs.Table.{bucket_of}
use Rattle.pe_graph.proofs.TableLemmas.{walk_from, walk_on, walk_falls}
use Rattle.pe_graph.proofs.table.Table.find.Goals as goal

pub loop-after-init : goal.loop-after-init
loop-after-init c =
    let heads = c.args.self.now.heads.items in
    let size : c.len.result ≡ length heads = c.len.ensures ∙ c.args.self.now.heads.ok.0 in
    let b : c.bucket.result ≡ bucket_of (length heads) c.args.node.now = c.bucket.ensures.value ∙ ap (λ n. bucket_of n c.args.node.now) size in
    let lt : c.bucket.result < length heads = omega (arith, c.bucket.ensures.within) in
    let e = get_or_read heads c.bucket.result c.index-after.result.now lt c.index-after.ensures 0 in
    let first = c.requires.heads_are c.bucket.result lt in
    rw (e, first, b) (walk_from c.args.nodes.now (length heads) c.args.node.now (length c.args.nodes.now) (omega arith) (λ j ge below. absurd (omega arith)))

pub loop-after-smaller : goal.loop-after-smaller
loop-after-smaller c =
    let var = c.loop-after.after - 1 in
    let lt : var < length c.args.nodes.now = omega (arith, c.loop-after.invariant.within) in
    let room = c.requires.room in
    let e = get_or_read c.args.self.now.earlier.items var c.index-after-in-loop-after.result.now (omega arith) c.index-after-in-loop-after.ensures 0 in
    let falls = walk_falls _ _ c.args.self.now.earlier.items var c.requires lt in
    omega arith

pub loop-after-preserved : goal.loop-after-preserved
loop-after-preserved c =
    let var = c.loop-after.after - 1 in
    let ne : c.index-nodes-var.result ≢ c.args.node.now = search rules in
    let lt : var < length c.args.nodes.now = omega (arith, c.loop-after.invariant.within) in
    let room = c.requires.room in
    let is = get_or_read c.args.nodes.now var c.index-nodes-var.result lt c.index-nodes-var.is True in
    let e = get_or_read c.args.self.now.earlier.items var c.index-after-in-loop-after.result.now (omega arith) c.index-after-in-loop-after.ensures 0 in
    rw e (walk_on _ _ _ _ c.loop-after.after var c.requires (omega arith) c.loop-after.invariant (λ same. ne (is ∙ same)))
