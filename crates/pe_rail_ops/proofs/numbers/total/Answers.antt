use Rattle.pe_rail_ops.proofs.Comparison.{total_gives}
use Rattle.pe_rail_ops.proofs.numbers.total.Goals as goal

pub returns-clause-gives : goal.returns-clause-gives
returns-clause-gives c =
    total_gives _ _ _ _ c.args.subtract c.args.a.now c.args.b.now _ _ _ c.requires.widths c.requires.a_in c.requires.b_in c.in_ok-known.ensures.gives c.in_ok-bits.ensures.gives (rw c.as_slice.ensures at c.in_ok-kept.ensures.gives)
