use Rattle.std.proofs.Common.{◌+◌, take, sym, subst}
use Rattle.std.specs.List.{AllZip}
use Rattle.pe_supply.specs.Building.{IsRefusedSwitch, IsSwitchOf}
use Rattle.pe_supply.proofs.Switching.{zip_step, first_refused}
use Rattle.pe_supply.proofs.switches.make_switches.Goals as goal

pub returns-in-None : goal.returns-in-None
returns-in-None c =
    let refused : IsRefusedSwitch c.text-item.result = rw c.in-None.is at c.in_ok-switch.ensures in
    first_refused c.args.names.now c.args.texts.now c.loop-text.switches c.loop-text.text-index c.text-item.result c.in_ok-name-in-None.name c.loop-text-test.true c.text-item.is c.loop-text.invariant refused c.in_ok-name-in-None.ensures

pub loop-text-preserved : goal.loop-text-preserved
loop-text-preserved c =
    let R = IsSwitchOf c.args.names.now in
    let i = c.loop-text.text-index in
    let made : IsSwitchOf c.args.names.now c.text-item.result c.in-Some.switch = rw c.in-Some.is at c.in_ok-switch.ensures in
    subst (λ ws. AllZip R (take (i + 1) c.args.texts.now) ws) (sym c.in_ok-push-in-Some.ensures.ok)
    (zip_step R c.args.texts.now c.loop-text.switches i c.text-item.result c.in-Some.switch c.loop-text-test.true c.text-item.is c.loop-text.invariant made)
