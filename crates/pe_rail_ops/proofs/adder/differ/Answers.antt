use Rattle.pe_rail_ops.proofs.AdderLemmas.{differ_gives}
use Rattle.pe_rail_ops.proofs.adder.differ.Goals as goal

pub returns-clause-gives : goal.returns-clause-gives
returns-clause-gives c =
    differ_gives _ _ _ _ c.args.x c.args.y c.in_ok-both.both c.in_ok-neither.neither _ c.requires.x_in c.requires.y_in c.in_ok-both.ensures.gives
    (rw (c.complement.ensures, c.complement-2.ensures) at c.in_ok-neither.ensures.gives)
    (rw (c.complement-3.ensures, c.complement-4.ensures) at c.in_ok-one.ensures.gives)
