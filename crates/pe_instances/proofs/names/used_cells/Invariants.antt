use Rattle.std.proofs.Common.{◌≡◌, [], map, drop}
use Rattle.pe_instances.specs.Form.{with_new}
use Rattle.pe_instances.proofs.names.used_cells.Given as goal

abbrev pub invariant-loop-instance : goal.invariant-loop-instance
invariant-loop-instance l = record {
  same : l.seen ≡ l.names;
  done : with_new l.names (map (λ i. i.cell) (drop l.instance-index l.instance-items)) ≡ with_new [] (map (λ i. i.cell) l.instance-items);
}
