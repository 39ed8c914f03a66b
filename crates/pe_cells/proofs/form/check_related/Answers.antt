use Rattle.pe_cells.proofs.Appends.{append_two}
use Rattle.pe_cells.proofs.form.check_related.Goals as goal

pub returns : goal.returns
returns c = append_two _ _ _ _ _ c.in_ok-check_name.ensures c.in_ok-check_name-2.ensures
