use Rattle.std.proofs.Common.{◌≡◌, ◌++◌, take}
use Rattle.pe_cnf.specs.Cone.{cited_clauses}
use Rattle.pe_cnf.specs.Marks.{entry_of}
use Rattle.pe_cnf.proofs.gates.push_cited.Given as goal

abbrev pub invariant-loop-e : goal.invariant-loop-e
invariant-loop-e l = l.list ≡ l.fn.list ++ cited_clauses (entry_of l.numbers) (take l.e-index l.cited)
