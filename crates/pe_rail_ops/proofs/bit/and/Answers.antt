use Rattle.pe_rail_ops.proofs.Rails.{and_gives}
use Rattle.pe_rail_ops.proofs.bit.and.Goals as goal

pub returns-clause-gives : goal.returns-clause-gives
returns-clause-gives c = and_gives _ _ _ c.args.a.now c.args.b.now _ _ c.requires.a_in c.requires.b_in c.in_ok-one.ensures.gives c.in_ok-zero.ensures.gives
