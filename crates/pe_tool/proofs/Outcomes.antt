-- Texts have one list of questions and answers, or one refusal.
use Rattle.std.proofs.Common.{◌≡◌, List, sym, ap, ◌∙◌, subst, Result, Ok, Err}
use Rattle.pe_base.specs.declared.text.Texts.{Texts}
use Rattle.pe_design.specs.declared.design.Design.{Design}
use Rattle.pe_design.specs.Sound.{IsSound}
use Rattle.pe_front.specs.declared.fault.CheckFault.{CheckFault}
use Rattle.pe_front.specs.declared.fault.CheckFault.TheVariants.{Memory, Refused}
use Rattle.pe_questions.specs.declared.answer.Answer.{Answer}
use Rattle.pe_questions.specs.declared.question.Question.{Question}
use Rattle.pe_questions.specs.Questions.{questions}
use Rattle.pe_questions.specs.Answers.{AreAnswers}
use Rattle.pe_questions.proofs.Headline.{one_list}
use Rattle.pe_tool.specs.declared.check.Plain.{Plain}
use Rattle.pe_tool.specs.Equivalent.{IsReported}
use Rattle.pe_tool.specs.Outcome.{IsOutcome, IsSame}
use Rattle.pe_tool.proofs.Standing.{OneAnswer, one_of, no_two}

abbrev pub make : List Question → List Answer → Plain
make asked told = record { questions = asked; answers = told }

same_plain : (p q : Plain) → p.questions ≡ q.questions → p.answers ≡ q.answers → p ≡ q
same_plain p q e f = ap (λ asked. make asked p.answers) e ∙ ap (make q.questions) f

pub only_ok : OneAnswer → (t : Texts) (d : Design) (p : Plain) (other : Result Plain CheckFault) → IsSound d → IsReported t d p.answers → p.questions ≡ questions d → IsOutcome t other → IsSame other (Ok p)
only_ok one t d p (Ok q) sound r asked x =
    let same : x.design ≡ d = one_of one t x.design d x.reported.given r.given in
    let are : AreAnswers d (questions d) q.answers = subst (λ c. AreAnswers c (questions c) q.answers) same x.reported.are in
    let told : p.answers ≡ q.answers = one_list d (questions d) p.answers q.answers sound r.are are in
    let questioned : p.questions ≡ q.questions = asked ∙ ap questions (sym same) ∙ sym x.asked in
    ap Ok (same_plain p q questioned told)
only_ok one t d p (Err Memory) sound r asked x = tt
only_ok one t d p (Err (Refused part fault)) sound r asked x = absurd (no_two one t d part fault r.given x)
