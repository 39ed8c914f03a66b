use Rattle.pe_rail_ops.proofs.Shifting.{shift_gives}
use Rattle.pe_rail_ops.proofs.shifts.shift.Goals as goal

pub returns-clause-gives : goal.returns-clause-gives
returns-clause-gives c = shift_gives _ _ _ _ c.args.direction c.args.a.now c.args.amount.now c.in_ok-word.word _ c.in_ok-known.known c.requires.a_in c.requires.amount_in c.in_ok-known.ensures.gives c.in_ok-word.ensures.gives (rw c.as_slice.ensures at c.in_ok-kept.ensures.gives)
