use Rattle.std.proofs.Common.{◌<◌, ℕ, get_or}
use Rattle.pe_cnf.specs.Clause.{IsBelow}
use Rattle.pe_refute.specs.Chain.{clause_of}
use Rattle.pe_refute.specs.declared.evidence.Derived.{Derived}
use Rattle.pe_refute.proofs.admit.chain_vars.Given as goal

abbrev pub invariant-loop-d : goal.invariant-loop-d
invariant-loop-d l = (j : ℕ) (d : Derived) → j < l.d-index → IsBelow l.vars (clause_of (get_or l.chain j d))
