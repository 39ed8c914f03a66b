-- The earliest of some faults, from their end.
use Rattle.std.specs.Prelude.{◌≡◌, List, [], ◌∷◌, ◌++◌, Option}
use Rattle.std.proofs.Common.{refl, ap}
use Rattle.pe_cells.specs.declared.form.Found.{Found}
use Rattle.pe_cells.specs.Form.{no_later, earliest_with}

pub earliest_push : (fs : List Found) (f : Found) (e : Option Found) → earliest_with (fs ++ f ∷ []) e ≡ earliest_with fs (no_later f e)
earliest_push [] f e = refl
earliest_push (g ∷ fs) f e = ap (no_later g) (earliest_push fs f e)
