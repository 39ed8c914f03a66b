use Rattle.pe_base.specs.Operators.{and_of}
use Rattle.pe_base.specs.Words.{any_of}
use Rattle.pe_rail_ops.proofs.Loops.{one_rail, both_gives}
use Rattle.pe_rail_ops.proofs.bits.logic_and.Goals as goal

pub returns-clause-gives : goal.returns-clause-gives
returns-clause-gives c =
    one_rail _ _ _ c.in_ok-bit.bit _ c.in_ok-bits.ensures
    (both_gives and_of any_of _ _ _ _ c.args.a.now c.args.b.now _ _ _ c.requires.b_in c.in_ok-x.ensures.gives c.in_ok-y.ensures.gives c.in_ok-bit.ensures.gives)
