use Rattle.std.proofs.Common.{length}
use Rattle.pe_graph.proofs.TableLemmas.{IsWalk}
use Rattle.pe_graph.proofs.table.Table.find.Given as goal

abbrev pub invariant-loop-after : goal.invariant-loop-after
invariant-loop-after l = IsWalk l.nodes (length l.self.heads.items) l.node l.after

abbrev pub decreases-loop-after : goal.decreases-loop-after
decreases-loop-after l = l.after
