use Rattle.std.proofs.Common.{◌+◌, take, sym, subst}
use Rattle.std.specs.List.{AllZip}
use Rattle.pe_bool_expr.specs.declared.style.Style.TheVariants.{Upf}
use Rattle.pe_bool_expr.specs.Reading.{IsFunction}
use Rattle.pe_supply.proofs.Switching.{zip_step}
use Rattle.pe_supply.proofs.switches.read_all.Goals as goal

pub loop-text-preserved : goal.loop-text-preserved
loop-text-preserved c =
    let R = IsFunction Upf c.args.names.now in
    let i = c.loop-text.text-index in
    let read : IsFunction Upf c.args.names.now c.text-item.result c.in-Some.function = rw c.in-Some.is at c.in_ok-function.ensures in
    subst (λ fs. AllZip R (take (i + 1) c.args.texts.now) fs) (sym c.in_ok-push-in-Some.ensures.ok)
    (zip_step R c.args.texts.now c.loop-text.functions i c.text-item.result c.in-Some.function c.loop-text-test.true c.text-item.is c.loop-text.invariant read)
