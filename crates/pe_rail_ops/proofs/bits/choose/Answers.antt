use Rattle.pe_base.specs.Words.{any_of}
use Rattle.pe_rail_ops.proofs.Loops.{choose_gives}
use Rattle.pe_rail_ops.proofs.bits.choose.Goals as goal

pub returns-clause-gives : goal.returns-clause-gives
returns-clause-gives c = choose_gives any_of _ _ _ c.args.c.now c.args.a.now c.args.b.now _ c.in_ok-control.control c.requires.a_in c.requires.b_in c.in_ok-control.ensures.gives c.in_ok-bits.ensures.gives
