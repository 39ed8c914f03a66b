use Rattle.std.proofs.Common.{◌∙◌, None}
use Rattle.pe_questions.proofs.Judged.{live_found, sample_told}
use Rattle.pe_questions.proofs.judging.live_answer.Goals as goal

pub returns-in-None : goal.returns-in-None
returns-in-None c = live_found c.args.d.now c.args.step c.args.cases.now None c.requires.sound c.requires.cases c.in-None.ensures

pub returns-in_ok-from_slice-in-Some : goal.returns-in_ok-from_slice-in-Some
returns-in_ok-from_slice-in-Some c =
    sample_told c.args.d.now c.args.step c.args.cases.now c.in-Some.sample.now c.in_ok-from_slice-in-Some.field-0 c.requires.sound c.requires.cases c.in-Some.ensures
    (c.in_ok-from_slice-in-Some.ensures ∙ c.as_slice.ensures)
