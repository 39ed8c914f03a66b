use Rattle.std.proofs.Common.{refl, drop, get_or}
use Rattle.pe_base.specs.declared.text.Step.TheVariants.{Start}
use Rattle.pe_questions.specs.declared.question.Point.TheVariants.{Output}
use Rattle.pe_questions.specs.declared.question.Question.{Question}
use Rattle.pe_tool.specs.Report.{step_block}
use Rattle.pe_tool.proofs.Reports.{block_end, block_step}
use Rattle.pe_tool.proofs.report.add_steps.Goals as goal

pub returns-in-None : goal.returns-in-None
returns-in-None c =
    block_end (step_block c.args.d.now) c.loop-question.out _ (drop c.loop-question.question-index c.args.questions.now) c.loop-question.rest.now c.in-None.ensures.cases c.loop-question.invariant

pub loop-question-preserved : goal.loop-question-preserved
loop-question-preserved c =
    let other : Question = record { step = Start 0; point = Output 0 } in
    block_step (step_block c.args.d.now) c.loop-question.out c.add_step.new.out _ c.args.questions.now c.loop-question.question-index (get_or c.args.questions.now c.loop-question.question-index other) other c.loop-question.rest.now c.in-Some.more.now c.in-Some.more.now c.in-Some.answer.now
    c.loop-question-test.true refl c.in-Some.ensures.cases.0 refl c.in_ok-add_step-in-Some.ensures c.loop-question.invariant
