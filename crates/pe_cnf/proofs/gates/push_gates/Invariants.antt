use Rattle.std.proofs.Common.{◌≡◌, ◌++◌}
use Rattle.pe_cnf.specs.Cone.{gate_clauses}
use Rattle.pe_cnf.specs.Marks.{mark_of, entry_of}
use Rattle.pe_cnf.proofs.gates.push_gates.Given as goal

abbrev pub invariant-loop-x : goal.invariant-loop-x
invariant-loop-x l = l.list ≡ l.fn.list ++ gate_clauses (mark_of l.cone) (entry_of l.numbers) l.graph l.x
