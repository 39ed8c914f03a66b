use Rattle.std.proofs.Common.{◌≡◌, ◌∙◌, ap}
use Rattle.pe_base.specs.Words.{is_one}
use Rattle.pe_base.specs.Operators.{not_of}
use Rattle.pe_graph.specs.Literals.{truth_of}
use Rattle.pe_rail_ops.proofs.Rails.{constant_is, constant_value}
use Rattle.pe_rail_ops.proofs.bit.constant.Goals as goal

pub returns-clause-is_rail : goal.returns-clause-is_rail
returns-clause-is_rail c = λ nodes graph.
    let one : c.truth.result ≡ truth_of (is_one c.args.x) = c.truth.ensures ∙ ap truth_of c.is_one.ensures in
    let zero : c.truth-2.result ≡ truth_of (is_one (not_of c.args.x)) = c.truth-2.ensures ∙ ap truth_of (c.is_one-2.ensures ∙ ap is_one c.not.ensures) in
    rw (one, zero) (constant_is nodes graph c.args.x)

pub returns-clause-value : goal.returns-clause-value
returns-clause-value c = λ nodes v graph.
    let one : c.truth.result ≡ truth_of (is_one c.args.x) = c.truth.ensures ∙ ap truth_of c.is_one.ensures in
    let zero : c.truth-2.result ≡ truth_of (is_one (not_of c.args.x)) = c.truth-2.ensures ∙ ap truth_of (c.is_one-2.ensures ∙ ap is_one c.not.ensures) in
    rw (one, zero) (constant_value nodes graph c.args.x v)
