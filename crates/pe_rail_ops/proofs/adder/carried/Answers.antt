use Rattle.pe_rail_ops.proofs.AdderLemmas.{carried_gives}
use Rattle.pe_rail_ops.proofs.adder.carried.Goals as goal

pub returns-clause-gives : goal.returns-clause-gives
returns-clause-gives c =
    carried_gives _ _ _ _ c.args.x c.args.y c.args.half c.args.carry c.in_ok-both.both c.in_ok-through.through _ c.requires.half_in c.requires.carry_in
    c.in_ok-both.ensures.gives c.in_ok-through.ensures.gives c.in_ok-either.ensures.gives
