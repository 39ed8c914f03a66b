use Rattle.std.proofs.Common.{◌∙◌}
use Rattle.pe_cnf.proofs.PartsLemmas.{within_ends, part_bounds, part_is}
use Rattle.pe_cnf.proofs.list.ClauseList.clause.Goals as goal

pub start_of-start-requires : goal.start_of-start-requires
start_of-start-requires c = rw c.deref.ensures.value (within_ends _ _ _ _ c.self.view_is c.requires)

pub end_of-end-requires : goal.end_of-end-requires
end_of-end-requires c = rw c.deref-2.ensures.value (within_ends _ _ _ _ c.self.view_is c.requires)

pub part-requires : goal.part-requires
part-requires c =
    let p = rw c.deref.ensures.value at c.start_of-start.ensures in
    let q = rw c.deref-2.ensures.value at c.end_of-end.ensures in
    let b = part_bounds _ _ _ _ _ _ c.self.view_is c.requires c.self.invariant p q in
    record { rise = b.0; within = rw c.deref-3.ensures.value b.1 }

pub returns : goal.returns
returns c =
    let p = rw c.deref.ensures.value at c.start_of-start.ensures in
    let q = rw c.deref-2.ensures.value at c.end_of-end.ensures in
    c.part.ensures ∙ rw c.deref-3.ensures.value (part_is _ _ _ _ _ _ c.self.view_is c.requires p q)
