use Rattle.std.proofs.Common.{◌≡◌, ap, ◌∙◌, subst}
use Rattle.pe_base.specs.Names.{are_distinct}
use Rattle.pe_instances.specs.declared.parts.Circuit.{Circuit}
use Rattle.pe_instances.specs.Form.{used_cells}
use Rattle.pe_instances.specs.Fit.{circuit_of}
use Rattle.pe_front.specs.declared.fault.Part.TheVariants.{Net}
use Rattle.pe_front.specs.Points.{Answers, BuiltThen}
use Rattle.pe_front.specs.Given.{is_fitting, FromDesign, FromFit}
use Rattle.pe_front.proofs.Uses.{used_distinct}
use Rattle.pe_front.proofs.last.from_fit.Goals as goal

pub from_circuit-requires-clause-cells : goal.from_circuit-requires-clause-cells
from_circuit-requires-clause-cells c =
    ap (λ (x : Circuit). are_distinct x.cells) c.in_ok-circuit.ensures ∙ ap are_distinct c.requires.cells ∙ used_distinct c.args.netlist

pub returns-clause-given : goal.returns-clause-given
unfolding FromFit
returns-clause-given c =
    let m = c.args.m in
    let intent = c.args.intent.now in
    let s = c.args.supplies in
    let e : c.in_ok-circuit.circuit ≡ circuit_of c.args.netlist m s.names (used_cells c.args.netlist) c.args.views =
    c.in_ok-circuit.ensures
    ∙ ap (λ ns. circuit_of c.args.netlist m ns c.args.cells c.args.views) c.as_slice-names.ensures
    ∙ ap (λ cs. circuit_of c.args.netlist m s.names cs c.args.views) c.requires.cells in
    subst (λ (x : Circuit). Answers (BuiltThen (is_fitting m intent s x) Net (FromDesign m intent s x)) c.from_circuit.result) e c.from_circuit.ensures.given
