use Rattle.pe_cnf.specs.Marks.{IsListOf}
use Rattle.pe_cnf.proofs.leaves.list_leaves.Given as goal

abbrev pub invariant-loop-number : goal.invariant-loop-number
invariant-loop-number l = IsListOf l.table l.number l.leaves.items
