use Rattle.std.proofs.Common.{◌∙◌, ap, get_or}
use Rattle.pe_base.specs.declared.value.Val.TheVariants.{Corrupt}
use Rattle.pe_rail_ops.specs.Rails.{rails_in}
use Rattle.pe_rail_ops.proofs.Shifting.{picked_gives}
use Rattle.pe_rail_ops.proofs.shifts.picked.Goals as goal

pub returns-clause-gives : goal.returns-clause-gives
returns-clause-gives c = let g = c.staged.new.graph in
    picked_gives _ _ _ _ c.args.a.now c.args.index.now c.in_ok-word.word c.in_ok-known.known c.lowest-found.result c.in_ok-bit.bit c.requires.a_in c.requires.index_in c.in_ok-known.ensures.gives c.in_ok-word.ensures.gives
    (λ v. c.lowest-found.ensures.value g v c.graph_law.ensures ∙ ap (λ w. get_or (rails_in v g w) 0 Corrupt) c.as_slice.ensures) c.in_ok-bit.ensures.gives
