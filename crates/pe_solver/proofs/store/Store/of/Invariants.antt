use Rattle.std.proofs.Common.{◌≡◌, take}
use Rattle.pe_solver.proofs.store.Store.of.Given as goal

abbrev pub invariant-loop-id : goal.invariant-loop-id
invariant-loop-id l = l.all ≡ take l.id l.given.clauses
