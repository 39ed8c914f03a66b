use Rattle.std.proofs.Common.{drop}
use Rattle.pe_tool.proofs.Reports.{supply_end, supply_step}
use Rattle.pe_tool.proofs.report.add_supplies.Goals as goal

pub returns-in-None : goal.returns-in-None
returns-in-None c =
    supply_end c.args.names.now c.loop-root.out _ (drop c.loop-root.root-index c.args.roots.now) c.loop-root.rest.now c.in-None.ensures.cases c.loop-root.invariant

pub loop-root-preserved : goal.loop-root-preserved
loop-root-preserved c =
    supply_step c.args.names.now c.loop-root.out c.add_line.new.out _ c.args.roots.now c.loop-root.root-index 0 c.loop-root.rest.now c.in-Some.more.now c.in-Some.bit.now c.loop-root-test.true
    c.in-Some.ensures.cases.0 (rw (c.first_name-name.ensures, c.on_word.ensures) at c.in_ok-add_line-in-Some.ensures) c.loop-root.invariant
