use Rattle.std.proofs.Common.{◌≡◌, take}
use Rattle.pe_solver.specs.Prefix.{denials}
use Rattle.pe_solver.proofs.prefixes.denial.Given as goal

abbrev pub invariant-loop-l : goal.invariant-loop-l
invariant-loop-l l = l.clause.items ≡ denials (take l.l-index l.prefix)
