use Rattle.std.proofs.Common.{[], ◌+◌, ◌≡◌, ◌∙◌, ap}
use Rattle.pe_questions.specs.Assignments.{width}
use Rattle.pe_questions.proofs.CaseLists.{all_cases, no_cases}
use Rattle.pe_questions.proofs.cases.cases.Goals as goal

pub returns : goal.returns
returns c =
    let wide : c.len.result + c.args.inputs ≡ width c.args.d.now = ap (λ n. n + c.args.inputs) c.len.ensures ∙ c.requires.inputs in
    all_cases c.args.d.now c.add_cases.new.cases (c.len.result + c.args.inputs) (width c.args.d.now) wide (c.in_ok-add_cases.ensures [] (rw c.new-cases.ensures (no_cases c.args.d.now)))
