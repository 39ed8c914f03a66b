use Rattle.std.proofs.Common.{◌≡◌, ◌++◌, map, take}
use Rattle.pe_cells.specs.Naming.{pg_word}
use Rattle.pe_cells.proofs.naming.add_pgs.Given as goal

abbrev pub invariant-loop-pg : goal.invariant-loop-pg
invariant-loop-pg l = l.names ≡ l.initial.names ++ map (pg_word l.pgs) (take l.pg-index l.pgs)
