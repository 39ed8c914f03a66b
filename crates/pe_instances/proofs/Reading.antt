-- What functions read.
use Rattle.std.proofs.lemmas.List.Folds.{list_all-append}
use Rattle.pe_bool_expr.proofs.Formulas.{layers}

pub ruleset reading = (layers, list_all-append)
