use Rattle.pe_supply.proofs.Planned.{planned_none, planned_more, planned_all}
use Rattle.pe_supply.proofs.planning.plan_of.Goals as goal

pub loop-command-init : goal.loop-command-init
loop-command-init c = planned_none c.new-plan.result c.args.commands.now c.new-plan.ensures

pub loop-command-preserved : goal.loop-command-preserved
loop-command-preserved c =
    planned_more c.loop-command.plan c.in_ok-plan_by.field-0 c.join.new.self c.args.commands.now c.loop-command.command-index c.command-item.result c.loop-command-test.true c.command-item.is c.in_ok-plan_by.ensures c.in_ok-join.ensures c.loop-command.invariant

pub returns : goal.returns
returns c = planned_all c.loop-command.plan c.args.commands.now c.loop-command.command-index c.loop-command-test.false c.loop-command.invariant
