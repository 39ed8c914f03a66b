use Rattle.std.proofs.Common.{◌≡◌, ◌≤◌, length}
use Rattle.pe_cnf.specs.Clause.{AllBelow}
use Rattle.pe_solver.specs.Derivation.{IsKept, NoneEmpty}
use Rattle.pe_solver.proofs.outcome.search.Given as goal

abbrev pub invariant-loop : goal.invariant-loop
invariant-loop l = record {
  kept : IsKept l.given.clauses l.all l.chain.items;
  count : length l.chain.items ≤ l.fn.share;
  none_empty : NoneEmpty l.chain.items;
  below : AllBelow l.scratch.vars l.all;
  room : l.scratch.vars ≡ l.given.vars;
}
