use Rattle.std.proofs.Common.{◌≡◌, length}
use Rattle.pe_cnf.specs.Marks.{mark_of, entry_of, IsLeafTable}
use Rattle.pe_cnf.proofs.leaves.leaf_table.Given as goal

abbrev pub invariant-loop-x : goal.invariant-loop-x
invariant-loop-x l = record {
  room : length l.table.items ≡ l.width;
  table : IsLeafTable (mark_of l.cone) (entry_of l.numbers) l.graph l.x l.table.items;
}
