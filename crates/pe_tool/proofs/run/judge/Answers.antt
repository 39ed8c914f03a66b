use Rattle.std.proofs.Common.{◌∙◌, ap, refl}
use Rattle.pe_tool.specs.Report.{report, report_status}
use Rattle.pe_tool.specs.Run.{reported, refused}
use Rattle.pe_tool.proofs.run.judge.Goals as goal

pub returns-in_ok-bytes-in-Ok : goal.returns-in_ok-bytes-in-Ok
returns-in_ok-bytes-in-Ok c =
    let d = c.in-Ok.checked.design in
    record {
      saying = reported d c.in-Ok.checked.plain.answers;
      right = c.in-Ok.ensures.found;
      says = record {
        status = c.report_status-status.ensures ∙ ap report_status c.as_slice-answers.ensures;
        bytes = c.in_ok-bytes-in-Ok.ensures
            ∙ ap (λ asked. report d asked c.as_slice-answers.result.now) (c.as_slice-questions.ensures ∙ c.in-Ok.ensures.asked)
            ∙ ap (report d _) c.as_slice-answers.ensures;
      };
    }

pub returns-in_ok-bytes-in-Err-Refused : goal.returns-in_ok-bytes-in-Err-Refused
returns-in_ok-bytes-in-Err-Refused c = record {
  saying = refused c.in-Err-Refused.part c.in-Err-Refused.fault;
  right = rw c.in-Err-Refused.field-0-is at c.in-Err-Refused.ensures.refused;
  says = record { status = refl; bytes = c.in_ok-bytes-in-Err-Refused.ensures };
}
