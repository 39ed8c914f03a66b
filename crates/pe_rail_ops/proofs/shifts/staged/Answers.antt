use Rattle.std.proofs.Common.{length, ap, ◌∙◌, arith}
use Rattle.pe_rail_ops.proofs.Shifting.{staged_none, staged_step, staged_all, next_step}
use Rattle.pe_rail_ops.proofs.shifts.staged.Goals as goal

pub loop-i-init : goal.loop-i-init
loop-i-init c = record {
  gives = staged_none _ c.args.direction c.args.fill c.args.a.now c.args.amount.now _ c.requires.a_in c.in_ok-word.ensures;
  width = ap length c.in_ok-word.ensures;
  step = let e = c.min-step.ensures in omega arith;
}

pub loop-i-preserved : goal.loop-i-preserved
loop-i-preserved c =
    let now = c.loop-i.invariant in
    record {
      gives = staged_step _ _ _ c.args.direction c.args.fill c.args.a.now c.args.amount.now c.loop-i.word _ c.loop-i.i c.loop-i.step c.index-amount-i.result c.requires.amount_in c.loop-i-test.true c.index-amount-i.is now.step now.gives (rw c.as_slice.ensures at c.in_ok-next.ensures.gives);
      width = c.in_ok-next.ensures.width ∙ ap length c.as_slice.ensures ∙ now.width;
      step = next_step c.loop-i.i c.loop-i.step (length c.args.a.now) _ now.step c.doubled-step.ensures;
    }

pub returns-clause-gives : goal.returns-clause-gives
returns-clause-gives c = staged_all _ _ c.args.direction c.args.fill c.args.a.now c.args.amount.now _ c.loop-i.i c.loop-i-test.false c.loop-i.invariant.gives
