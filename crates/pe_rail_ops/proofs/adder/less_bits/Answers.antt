use Rattle.pe_rail_ops.proofs.AdderLemmas.{less_gives}
use Rattle.pe_rail_ops.proofs.adder.less_bits.Goals as goal

pub returns-clause-gives : goal.returns-clause-gives
returns-clause-gives c =
    less_gives _ _ _ _ _ c.args.x c.args.y c.args.less c.in_ok-above.above c.in_ok-still.still c.in_ok-below.below _ c.requires.x_in c.requires.y_in c.requires.less_in
    (rw c.complement.ensures at c.in_ok-above.ensures.gives)
    (rw c.complement-2.ensures at c.in_ok-still.ensures.gives)
    (rw c.complement-3.ensures at c.in_ok-below.ensures.gives)
    c.in_ok-less.ensures.gives
