use Rattle.pe_rail_ops.proofs.AdderLemmas.{adder_gives}
use Rattle.pe_rail_ops.proofs.adder.add_bits.Goals as goal

pub returns-clause-gives : goal.returns-clause-gives
returns-clause-gives c =
    adder_gives _ _ _ _ c.args.x c.args.y c.args.carry c.in_ok-half.half c.in_ok-sum.sum _ c.requires.x_in c.requires.y_in c.requires.carry_in
    c.in_ok-half.ensures.gives c.in_ok-sum.ensures.gives c.in_ok-carry.ensures.gives
