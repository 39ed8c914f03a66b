use Rattle.std.proofs.Common.{◌∙◌, ap}
use Rattle.pe_base.specs.Values.{pick_of}
use Rattle.pe_rail_ops.specs.Rails.{rail_in}
use Rattle.pe_rail_ops.proofs.Tables.{pick-xor}
use Rattle.pe_rail_ops.proofs.Rails.{gives_as}
use Rattle.pe_rail_ops.proofs.bit.xor.Goals as goal

pub returns-clause-gives : goal.returns-clause-gives
returns-clause-gives c = let g = c.args.graph.now in
    gives_as _ _ _ _ c.in_ok-r.r
    (λ v. ap (pick_of (rail_in v g c.args.a.now) (rail_in v g c.args.b.now)) (c.not-flipped.ensures.value g v c.requires.b_in) ∙ pick-xor (rail_in v g c.args.a.now) (rail_in v g c.args.b.now))
    c.in_ok-r.ensures.gives
