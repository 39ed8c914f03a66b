use Rattle.std.proofs.Common.{◌-◌, ◌++◌, ◌∙◌, sym, subst, map}
use Rattle.pe_questions.specs.Assignments.{assignments}
use Rattle.pe_questions.specs.Cases.{AreCases}
use Rattle.pe_questions.proofs.CaseLists.{cases_at, cases_both}
use Rattle.pe_questions.proofs.cases.+add_cases.Goals as goal

pub returns-then-left-eq0 : goal.returns-then-left-eq0
returns-then-left-eq0 t c = λ before are.
    let made = cases_at c.args.d.now before c.args.cases.now c.in_ok-case_of.field-0 c.args.bits.now c.args.left c.if-left-eq0.true are c.in_ok-case_of.ensures.case c.in_ok-case_of.ensures.bits in
    subst (AreCases c.args.d.now (before ++ map (λ more. c.args.bits.now ++ more) (assignments c.args.left))) (sym c.in_ok-push.ensures.ok) made

pub returns : goal.returns
returns t c = λ before are.
    let zeros = c.as_slice.ensures ∙ c.in_ok-zero.ensures in
    let ones = c.as_slice-2.ensures ∙ c.in_ok-one.ensures in
    let first = c.in_ok-add_cases.ensures before are in
    cases_both c.args.d.now before c.args.bits.now c.as_slice.result.now c.as_slice-2.result.now c.args.left c.add_cases-2.new.cases c.if-left-eq0.false zeros ones
    (c.in_ok-add_cases-2.ensures (before ++ map (λ more. c.as_slice.result.now ++ more) (assignments (c.args.left - 1))) first)
