use Rattle.std.proofs.Common.{◌≡◌, take}
use Rattle.pe_cells.specs.Kinds.{pgs_of}
use Rattle.pe_cells.proofs.kinds.make_pgs.Given as goal

abbrev pub invariant-loop-group : goal.invariant-loop-group
invariant-loop-group l = l.pgs ≡ pgs_of (take l.group-index l.groups)
