-- What a check of five texts answers.
use Rattle.std.specs.Prelude.{◌≡◌, Result, Ok, Err}
use Rattle.pe_base.specs.declared.text.Texts.{Texts}
use Rattle.pe_design.specs.declared.design.Design.{Design}
use Rattle.pe_front.specs.declared.fault.CheckFault.{CheckFault}
use Rattle.pe_front.specs.declared.fault.CheckFault.TheVariants.{Memory, Refused}
use Rattle.pe_front.specs.Given.{IsGiven}
use Rattle.pe_questions.specs.Questions.{questions}
use Rattle.pe_tool.specs.declared.check.Plain.{Plain}
use Rattle.pe_tool.specs.Equivalent.{IsReported}

-- the texts give a design, and these are its questions and their answers
pub record IsPlain (t : Texts) (p : Plain) : Type 0 where
  pub design : Design
  pub asked : p.questions ≡ questions design
  pub reported : IsReported t design p.answers

-- the answer is right; where memory ran out nothing is said
abbrev pub IsOutcome : Texts → Result Plain CheckFault → Type 0
IsOutcome t (Ok p) = IsPlain t p
IsOutcome t (Err Memory) = Unit {0}
IsOutcome t (Err (Refused part fault)) = IsGiven t (Err (Refused part fault))

-- the answers are the same; where memory ran out nothing is said
abbrev pub IsSame : Result Plain CheckFault → Result Plain CheckFault → Type 0
IsSame (Err Memory) answer = Unit {0}
IsSame other (Err Memory) = Unit {0}
IsSame other answer = answer ≡ other
