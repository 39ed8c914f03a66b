use Rattle.std.proofs.Common.{◌∙◌}
use Rattle.pe_cnf.proofs.PartsLemmas.{concat-parts}
use Rattle.pe_cnf.proofs.list.ClauseList.flat.Goals as goal

pub returns : goal.returns
returns c = c.deref.ensures.value ∙ concat-parts _ _ _ c.self.view_is c.self.invariant
