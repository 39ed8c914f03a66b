use Rattle.std.proofs.Common.{◌≡◌, ◌+◌, drop}
use Rattle.pe_cells.specs.Viewing.{pg_place}
use Rattle.pe_cells.proofs.signals.pg_place.Given as goal

abbrev pub invariant-loop-i : goal.invariant-loop-i
invariant-loop-i l = pg_place l.pgs l.name ≡ l.i + pg_place (drop l.i l.pgs) l.name
