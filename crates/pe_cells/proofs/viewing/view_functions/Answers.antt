use Rattle.std.proofs.Common.{refl, sym, ◌∙◌}
use Rattle.pe_cells.proofs.Making.{none_earliest}
use Rattle.pe_cells.proofs.viewing.view_functions.Goals as goal

pub returns-in-None : goal.returns-in-None
returns-in-None c = c.in_ok-view.ensures.view (none_earliest c.make_view.new.faults (sym c.earliest.ensures ∙ c.in-None.is))

pub returns-in_ok-name-in-Some : goal.returns-in_ok-name-in-Some
returns-in_ok-name-in-Some c = (
  c.in_ok-name-in-Some.ensures,
  record {
    formed = c.requires.formed;
    faults = c.make_view.new.faults;
    judged = c.in_ok-view.ensures.judged;
    fault = c.in-Some.fault;
    first = sym c.earliest.ensures ∙ c.in-Some.is;
    is = refl;
  },
)
