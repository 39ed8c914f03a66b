use Rattle.std.proofs.Common.{◌≡◌, ◌++◌, drop}
use Rattle.pe_tool.specs.Report.{supply_lines}
use Rattle.pe_tool.proofs.report.add_supplies.Given as goal

abbrev pub invariant-loop-root : goal.invariant-loop-root
invariant-loop-root l = l.out ++ supply_lines l.names (drop l.root-index l.roots) l.rest ≡ l.fn.out ++ supply_lines l.names l.roots l.bits
