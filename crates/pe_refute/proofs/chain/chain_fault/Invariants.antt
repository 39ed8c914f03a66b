use Rattle.std.proofs.Common.{◌≡◌}
use Rattle.pe_refute.specs.Chain.{DerivedUpTo}
use Rattle.pe_refute.proofs.chain.chain_fault.Given as goal

abbrev pub invariant-loop-i : goal.invariant-loop-i
invariant-loop-i l = record {
  derived : DerivedUpTo l.given.clauses l.chain l.i;
  room : l.scratch.vars ≡ l.fn.scratch.vars;
}
