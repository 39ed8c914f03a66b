use Rattle.std.proofs.Common.{refl, sym, ap, ◌∙◌}
use Rattle.pe_cells.specs.Form.{earliest, form_faults}
use Rattle.pe_cells.specs.Kinds.{pgs_of}
use Rattle.pe_cells.proofs.Making.{none_earliest}
use Rattle.pe_cells.proofs.viewing.view_cell.Goals as goal

pub view_functions-answer-requires-clause-pgs : goal.view_functions-answer-requires-clause-pgs
view_functions-answer-requires-clause-pgs c = c.in_ok-pgs.ensures ∙ ap pgs_of c.as_slice.ensures

pub view_functions-answer-requires-clause-formed : goal.view_functions-answer-requires-clause-formed
view_functions-answer-requires-clause-formed c =
    let pgs = c.as_slice-2.ensures ∙ c.in_ok-pgs.ensures ∙ ap pgs_of c.as_slice.ensures in
    sym (ap (λ p. form_faults p c.args.group.now) pgs) ∙ sym c.in_ok-faults.ensures ∙ none_earliest c.in_ok-faults.faults (sym c.earliest.ensures ∙ c.in-None.is)

pub returns-in_ok-name-in-Some : goal.returns-in_ok-name-in-Some
returns-in_ok-name-in-Some c =
    let pgs = c.as_slice-2.ensures ∙ c.in_ok-pgs.ensures ∙ ap pgs_of c.as_slice.ensures in (
      c.in_ok-name-in-Some.ensures,
      record {
        fault = c.in-Some.fault;
        first = sym (ap earliest (c.in_ok-faults.ensures ∙ ap (λ p. form_faults p c.args.group.now) pgs)) ∙ sym c.earliest.ensures ∙ c.in-Some.is;
        is = refl;
      },
    )
