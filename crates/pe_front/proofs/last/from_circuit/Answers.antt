use Rattle.std.proofs.Common.{◌≡◌, true, sym, ◌∙◌, rules}
use Rattle.pe_front.specs.Given.{is_fitting}
use Rattle.pe_front.proofs.Sounding.{sound_of}
use Rattle.pe_front.proofs.last.from_circuit.Goals as goal

pub from_width-requires : goal.from_width-requires
from_width-requires c =
    let on : c.in_ok-is_fitting.field-0 ≡ true = search rules in
    let fits : is_fitting c.args.m c.args.intent.now c.args.supplies c.args.circuit ≡ true = sym c.in_ok-is_fitting.ensures ∙ on in
    sound_of c.args.m c.args.intent.now c.args.supplies c.args.circuit c.make_design-design.result c.make_design-design.ensures fits c.requires.rtl c.requires.supplies c.requires.cells c.requires.views c.requires.inputs
