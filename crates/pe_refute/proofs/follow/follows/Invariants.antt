use Rattle.std.proofs.Common.{◌≡◌, drop, ◌↔◌}
use Rattle.pe_refute.specs.Follow.{Propagates, Follows}
use Rattle.pe_refute.specs.Known.{knows_of}
use Rattle.pe_refute.specs.Chain.{all_clauses}
use Rattle.pe_refute.proofs.follow.follows.Given as goal

abbrev pub invariant-loop-i : goal.invariant-loop-i
invariant-loop-i l = record {
  same : Follows (all_clauses l.given.clauses l.earlier) l.clause l.hints ↔
      Propagates (all_clauses l.given.clauses l.earlier) (knows_of l.scratch) (drop l.i l.hints);
  room : l.scratch.vars ≡ l.fn.scratch.vars;
}
