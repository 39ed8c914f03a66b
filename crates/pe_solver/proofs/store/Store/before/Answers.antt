use Rattle.std.proofs.Common.{◌≡◌, ◌<◌, arith, length}
use Rattle.pe_cnf.specs.Clause.{clause_at}
use Rattle.pe_solver.specs.Masks.{IsOfRest, rest_at}
use Rattle.pe_solver.proofs.LinkLemmas.{last_clause, rest_of_clause}
use Rattle.pe_solver.proofs.store.Store.before.Goals as goal

pub returns : goal.returns
returns c =
    let s = c.self.inside in
    let within : c.args.id < length s.list = rw c.self.view_is c.requires in
    λ r o.
    let own : IsOfRest (clause_at s.list c.args.id) r = rw c.self.view_is o in
    let rest : rest_at s.links c.args.id ≡ r = rest_of_clause s.list s.links c.args.id r c.self.invariant within own in
    rw (← c.self.view_is) (last_clause s.list s.links c.args.id r _ c.self.invariant (omega arith) (rw rest at c.before-2.ensures))
