use Rattle.std.proofs.Common.{◌∙◌, ap}
use Rattle.std.specs.List.{flat_map}
use Rattle.pe_base.specs.Names.{has_name}
use Rattle.pe_assigns.specs.Form.{are_ordered, assigns, assigns_in, input_names}
use Rattle.pe_assigns.proofs.Reading.{ordered_same}
use Rattle.pe_assigns.proofs.form.are_ordered.Goals as goal

pub loop-item-init : goal.loop-item-init
loop-item-init c =
    ap (λ items. are_ordered c.in_ok-known.known (flat_map assigns_in items)) c.as_slice-item-items.ensures
    ∙ ordered_same c.in_ok-known.known (input_names c.args.m.now) (assigns c.args.m.now)
    (λ n. c.in_ok-known.ensures n ∙ ap (λ names. has_name names n) (c.as_slice.ensures ∙ c.in_ok-inputs.ensures))
