use Rattle.std.proofs.Common.{sym, ◌∙◌, ap, length}
use Rattle.pe_cnf.proofs.PartsLemmas.{length-parts}
use Rattle.pe_cnf.proofs.list.ClauseList.count.Goals as goal

pub returns : goal.returns
returns c = c.len.ensures ∙ c.self.inside.ends.ok.0 ∙ sym (length-parts _ 0 _) ∙ ap length c.self.view_is
