use Rattle.std.proofs.Common.{◌≡◌, ◌++◌, map, take}
use Rattle.pe_cells.proofs.kinds.add_pgs.Given as goal

abbrev pub invariant-loop-name : goal.invariant-loop-name
invariant-loop-name l = l.pgs ≡ l.initial.pgs ++ map (λ n. record { name = n; kind = l.kind }) (take l.name-index l.name-items)
