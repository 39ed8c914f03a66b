use Rattle.std.proofs.Common.{◌≡◌, ◌<◌, length, slice_index, subst, arith}
use Rattle.pe_supply.specs.Labels.{AreCounted}
use Rattle.pe_supply.proofs.Counting.{counting_none, counting_first, counting_other}
use Rattle.pe_supply.proofs.numbers.count_off.Goals as goal
use Rattle.pe_supply.proofs.numbers.count_off.Goals.{then-label-k+in_ok-push, else-label-k+in_ok-push-2}

pub loop-k-init : goal.loop-k-init
loop-k-init c = rw c.new-numbers.ensures (counting_none c.args.labels.now)

pub loop-k-preserved : goal.loop-k-preserved
loop-k-preserved c =
    let labels = c.args.labels.now in
    let k = c.loop-k.k in
    elim c.if-label-k.branch [
      | then-label-k+in_ok-push w ↦
          let own : slice_index labels k ≡ k = w.if-label-k.true in
          rw (w.numbers-is, w.count-is, w.in_ok-push.ensures.ok) (counting_first labels k c.loop-k.numbers c.loop-k.count c.loop-k.invariant c.requires.first c.loop-k-test.true own)
      | else-label-k+in_ok-push-2 w ↦
          let less : slice_index labels k < k = omega (arith, w.if-label-k.false, c.requires.first.before k c.loop-k-test.true) in
          let step = counting_other labels k c.loop-k.numbers c.loop-k.count c.loop-k.invariant c.requires.first c.loop-k-test.true less in
          rw (w.numbers-is, w.count-is, w.in_ok-push-2.ensures.ok, w.as_slice.ensures) step
    ]

pub returns : goal.returns
returns c =
    let end : c.loop-k.k ≡ length c.args.labels.now = omega arith in
    subst (λ n. AreCounted c.args.labels.now n c.loop-k.numbers) end c.loop-k.invariant.counted
