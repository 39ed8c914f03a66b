use Rattle.std.proofs.Common.{◌≡◌, take}
use Rattle.pe_cnf.specs.Clause.{AllBelow}
use Rattle.pe_cnf.proofs.clauses.Clauses.from_lists.Given as goal

abbrev pub invariant-loop-clause : goal.invariant-loop-clause
invariant-loop-clause l = record {
  list : l.list ≡ take l.clause-index l.lists;
  below : AllBelow l.vars (take l.clause-index l.lists);
}
