use Rattle.pe_rail_ops.proofs.Rails.{kept_gives}
use Rattle.pe_rail_ops.proofs.bit.kept.Goals as goal

pub returns-clause-gives : goal.returns-clause-gives
returns-clause-gives c = kept_gives _ _ _ c.args.x.now _ _ c.args.on c.requires.on_in c.requires.x_in c.in_ok-one.ensures.gives c.in_ok-zero.ensures.gives
