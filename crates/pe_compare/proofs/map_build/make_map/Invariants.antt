use Rattle.std.proofs.Common.{◌≡◌, take}
use Rattle.std.specs.List.{filter_map}
use Rattle.pe_compare.proofs.MapLines.{said}
use Rattle.pe_compare.proofs.map_build.make_map.Given as goal

abbrev pub invariant-loop-line : goal.invariant-loop-line
invariant-loop-line l = l.lines ≡ filter_map (said l.text l.tokens) (take l.line-index l.line-items)
