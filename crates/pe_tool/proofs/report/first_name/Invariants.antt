use Rattle.std.proofs.Common.{◌≡◌, drop}
use Rattle.pe_tool.specs.Report.{first_name}
use Rattle.pe_tool.proofs.report.first_name.Given as goal

abbrev pub invariant-loop-name : goal.invariant-loop-name
invariant-loop-name l = first_name l.names l.supply ≡ first_name (drop l.name-index l.names) l.supply
