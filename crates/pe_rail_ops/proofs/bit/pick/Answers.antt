use Rattle.pe_rail_ops.proofs.Rails.{pick_gives}
use Rattle.pe_rail_ops.proofs.bit.pick.Goals as goal

pub returns-clause-gives : goal.returns-clause-gives
returns-clause-gives c = pick_gives _ _ _ c.args.control.now c.args.x.now c.args.y.now _ _ c.requires.control_in c.requires.x_in c.requires.y_in c.in_ok-one.ensures.gives c.in_ok-zero.ensures.gives
