use Rattle.pe_rail_ops.specs.Rails.{rails_in}
use Rattle.pe_rail_ops.proofs.Rails.{rails_as}
use Rattle.pe_rail_ops.proofs.Comparison.{less_equal_is}
use Rattle.pe_rail_ops.proofs.numbers.less_equal.Goals as goal

pub returns-clause-gives : goal.returns-clause-gives
returns-clause-gives c = let g = c.args.graph.now in
    rails_as _ _ _ _ _ (λ v. less_equal_is (rails_in v g c.args.a.now) (rails_in v g c.args.b.now)) c.in_ok-bits.ensures.gives
