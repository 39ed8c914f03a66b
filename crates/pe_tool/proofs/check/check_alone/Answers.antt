use Rattle.pe_tool.proofs.Outcomes.{only_ok}
use Rattle.pe_tool.proofs.check.check_alone.Goals as goal

pub returns-in-Ok-clause-only : goal.returns-in-Ok-clause-only
returns-in-Ok-clause-only c = λ other right.
    only_ok c.one_design.ensures.answer c.args.texts.now c.in-Ok.checked.design c.in-Ok.checked.plain other c.in-Ok.ensures.sound c.in-Ok.ensures.found c.in-Ok.ensures.asked right
