use Rattle.std.proofs.Common.{◌≡◌, ◌++◌, drop}
use Rattle.pe_tool.specs.Report.{input_lines}
use Rattle.pe_tool.proofs.report.add_inputs.Given as goal

abbrev pub invariant-loop-name : goal.invariant-loop-name
invariant-loop-name l = l.out ++ input_lines (drop l.name-index l.names) l.rest ≡ l.fn.out ++ input_lines l.names l.bits
