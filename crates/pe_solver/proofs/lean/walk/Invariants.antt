use Rattle.std.proofs.Common.{◌≡◌}
use Rattle.pe_refute.specs.Known.{knows_of}
use Rattle.pe_solver.proofs.Walks.{WalkedTo}
use Rattle.pe_solver.proofs.lean.walk.Given as goal

abbrev pub invariant-loop-h : goal.invariant-loop-h
invariant-loop-h l = record {
  walked : WalkedTo l.all (knows_of l.fn.scratch) l.hints l.h-index l.kept.items l.units.items (knows_of l.scratch);
  room : l.scratch.vars ≡ l.fn.scratch.vars;
}
