use Rattle.std.proofs.Common.{sym, ap, ◌∙◌, arith}
use Rattle.pe_bool_expr.specs.Scan.{behind}
use Rattle.pe_bool_expr.proofs.Running.{depth_behind}
use Rattle.pe_bool_expr.proofs.Scanning.{one_more, stopped, unfinished, finished}
use Rattle.pe_bool_expr.proofs.scan.first_wrong.Goals as goal

pub returns-in-None : goal.returns-in-None
returns-in-None c =
    let style = c.args.style in
    let tokens = c.args.tokens.now in
    let i = c.loop-number.number in
    let s = c.loop-number.state in
    let so_far = c.loop-number.invariant.so_far in
    stopped style tokens i s c.requires c.loop-number-test.true so_far
    (one_more style tokens i _ s c.loop-number-test.true so_far ∙ ap (λ r. behind style r s) (sym c.role_in.ensures) ∙ sym c.step.ensures ∙ c.in-None.is)

pub loop-number-preserved : goal.loop-number-preserved
loop-number-preserved c =
    let style = c.args.style in
    let s = c.loop-number.state in
    let next = sym c.step.ensures ∙ c.in-Some.is in
    record {
      low = omega (arith, depth_behind style c.role_in.result s c.in-Some.next next);
      so_far = one_more style c.args.tokens.now c.loop-number.number _ s c.loop-number-test.true c.loop-number.invariant.so_far ∙ ap (λ r. behind style r s) (sym c.role_in.ensures) ∙ next;
    }

pub returns-then-may_end : goal.returns-then-may_end
returns-then-may_end c =
    finished c.args.style c.args.tokens.now c.loop-number.number c.loop-number.state c.requires c.loop-number.auto.number-end c.loop-number-test.false c.loop-number.invariant.so_far
    (c.may_end.ensures.yes c.if-may_end.true)

pub returns-else-may_end : goal.returns-else-may_end
returns-else-may_end c =
    unfinished c.args.style c.args.tokens.now c.loop-number.number c.loop-number.state c.requires c.loop-number.auto.number-end c.loop-number-test.false c.loop-number.invariant.so_far
    (c.may_end.ensures.no c.if-may_end.false)
