use Rattle.std.proofs.Common.{◌≡◌, ◌+◌, ◌<◌, ◌≤◌, length, get_or, set, refl, ap, ◌∙◌, arith}
use Rattle.std.proofs.lemmas.List.{get_or_default}
use Rattle.pe_supply.proofs.Outputs.{no_counts, count_small, count_in, count_out}
use Rattle.pe_supply.proofs.drivers.driver_counts.Goals as goal
use Rattle.pe_supply.proofs.drivers.driver_counts.Goals.{then-supply-len, else-supply-len}

pub loop-edge-init : goal.loop-edge-init
loop-edge-init c = no_counts c.args.count c.in_ok-counts.counts.items (c.in_ok-counts.ensures.items_if_clones_equal (λ y e. e))

pub overflow_add-index_mut : goal.overflow_add-index_mut
overflow_add-index_mut c =
    let edges = c.args.edges.now in
    let k = c.loop-edge.edge-index in
    let edge = get_or edges k (0, 0) in
    let counts = c.loop-edge.counts.items in
    let within : edge.0 < length counts = omega arith in
    let small : get_or counts edge.0 0 ≤ k = count_small edges k edge c.loop-edge-test.true refl c.args.count counts c.loop-edge.invariant edge.0 within in
    omega (arith, c.index_mut.ensures.value, get_or_default counts edge.0 c.index_mut.result.now 0 within)

pub loop-edge-preserved : goal.loop-edge-preserved
loop-edge-preserved c =
    let edges = c.args.edges.now in
    let k = c.loop-edge.edge-index in
    let edge = get_or edges k (0, 0) in
    let counts = c.loop-edge.counts.items in
    elim c.if-supply-len.branch [
      | then-supply-len w ↦
          let within : edge.0 < length counts = omega (arith, w.if-supply-len.true) in
          let old : w.index_mut.result.now ≡ get_or counts edge.0 0 = w.index_mut.ensures.value ∙ get_or_default counts edge.0 w.index_mut.result.now 0 within in
          let new : c.if-supply-len.counts.items ≡ set counts edge.0 (get_or counts edge.0 0 + 1) = ap (λ v. v.items) w.counts-is ∙ ap (λ n. set counts edge.0 (n + 1)) old in
          rw new (count_in edges k edge c.loop-edge-test.true refl c.args.count counts c.loop-edge.invariant within)
      | else-supply-len w ↦
          let past : length counts ≤ edge.0 = omega (arith, w.if-supply-len.false) in
          rw w.counts-is (count_out edges k edge c.loop-edge-test.true refl c.args.count counts c.loop-edge.invariant past)
    ]
