use Rattle.std.proofs.Common.{arith, length}
use Rattle.pe_solver.proofs.LinkLemmas.{last_clause}
use Rattle.pe_solver.proofs.store.Store.last.Goals as goal

pub returns : goal.returns
returns c =
    let s = c.self.inside in
    rw (← c.self.view_is, ← c.self.invariant.count) (last_clause s.list s.links (length s.links) _ _ c.self.invariant (omega arith) c.last.ensures)
