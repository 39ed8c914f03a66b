use Rattle.std.proofs.Common.{◌≡◌, true, drop}
use Rattle.pe_base.specs.Names.{are_distinct, HasSameNames}
use Rattle.pe_base.proofs.name_set.are_distinct.Given as goal

abbrev pub invariant-loop-i : goal.invariant-loop-i
invariant-loop-i l = record {
  same : HasSameNames l.behind (drop l.i l.names);
  apart : are_distinct (drop l.i l.names) ≡ true;
}
