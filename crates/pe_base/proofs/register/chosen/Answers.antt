use Rattle.pe_base.proofs.RegisterLemmas.{chosen_is}
use Rattle.pe_base.proofs.register.chosen.Goals as goal

pub returns : goal.returns
returns c =
    let whole = chosen_is c.args.inputs c.args.otherwise in
    let restored = c.pick-restored.ensures in
    let not_cleared = c.pick-not_cleared.ensures in
    let cleared = c.pick-cleared.ensures in
    let last = c.pick.ensures in
    let shadow = c.shadowed.ensures in
    cc
