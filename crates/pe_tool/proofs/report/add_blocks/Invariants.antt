use Rattle.std.proofs.Common.{◌≡◌, ◌++◌, drop}
use Rattle.pe_tool.specs.Report.{block, blocks_by}
use Rattle.pe_tool.proofs.report.add_blocks.Given as goal

abbrev pub invariant-loop-question : goal.invariant-loop-question
invariant-loop-question l = l.out ++ blocks_by (block l.d) (drop l.question-index l.questions) l.rest ≡ l.fn.out ++ blocks_by (block l.d) l.questions l.answers
