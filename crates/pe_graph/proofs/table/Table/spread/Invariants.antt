use Rattle.std.proofs.Common.{◌≡◌, length}
use Rattle.pe_graph.specs.Table.{IsLinked}
use Rattle.pe_graph.proofs.table.Table.spread.Given as goal

abbrev pub invariant-loop-var : goal.invariant-loop-var
invariant-loop-var l = record {
  linked : IsLinked l.nodes l.var l.self.heads.items l.self.earlier.items;
  room : length l.self.earlier.items ≡ length l.fn.self.earlier.items;
}
