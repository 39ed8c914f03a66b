use Rattle.pe_rail_ops.proofs.Comparison.{compare_gives}
use Rattle.pe_rail_ops.proofs.numbers.compare.Goals as goal

pub returns-clause-gives : goal.returns-clause-gives
returns-clause-gives c = let g = c.is_less.new.graph in
    compare_gives _ _ _ _ c.args.turn c.args.a.now c.args.b.now _ c.in_ok-known.known c.in_ok-less.less c.flip.result c.known.result c.in_ok-bit.bit c.requires.a_in c.requires.b_in c.in_ok-known.ensures.gives c.in_ok-less.ensures.gives
    (λ v. c.flip.ensures.value g v) (λ v. c.known.ensures.value g v) c.in_ok-bit.ensures.gives c.in_ok-bits.ensures
