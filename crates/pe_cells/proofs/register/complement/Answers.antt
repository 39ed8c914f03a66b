use Rattle.pe_cells.proofs.Complements.{complement_is}
use Rattle.pe_cells.proofs.register.complement.Goals as goal

pub returns : goal.returns
returns c =
    let whole = complement_is c.args.inputs c.args.second in
    let restored = c.pick-restored.ensures in
    let not_cleared = c.pick-not_cleared.ensures in
    let cleared = c.pick-cleared.ensures in
    let last = c.pick.ensures in
    cc
