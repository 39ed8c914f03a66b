use Rattle.std.proofs.Common.{◌∙◌}
use Rattle.pe_cnf.proofs.PartsLemmas.{pushed_parts}
use Rattle.pe_cnf.proofs.list.ClauseList.push.Goals as goal

pub invariant_of-self-in-Ok-push : goal.invariant_of-self-in-Ok-push
invariant_of-self-in-Ok-push c =
    (pushed_parts _ _ _ _ _ _ _ c.self.view_is c.self.invariant c.in-Ok.ensures.items (c.len-end.ensures ∙ c.extend_from_slice.new.self.ok.0) c.in-Ok-push.ensures.items).0

pub returns-in-Ok-push-clause-ok : goal.returns-in-Ok-push-clause-ok
returns-in-Ok-push-clause-ok c =
    (pushed_parts _ _ _ _ _ _ _ c.self.view_is c.self.invariant c.in-Ok.ensures.items (c.len-end.ensures ∙ c.extend_from_slice.new.self.ok.0) c.in-Ok-push.ensures.items).1
