-- When five texts give a design whose netlist is equivalent to its RTL, and when they give one with a mismatch.
use Rattle.std.specs.Prelude.{List}
use Rattle.pe_base.specs.declared.text.Texts.{Texts}
use Rattle.pe_design.specs.declared.design.Design.{Design}
use Rattle.pe_design.specs.Refined.{Refined, Replays}
use Rattle.pe_front.specs.Given.{IsDesign}
use Rattle.pe_questions.specs.declared.answer.Answer.{Answer}
use Rattle.pe_questions.specs.Questions.{questions}
use Rattle.pe_questions.specs.Answers.{AreAnswers}

-- the texts give a design, and the netlist of the design that they give is equivalent to its RTL under its power intent
pub record IsEquivalent (t : Texts) : Type 0 where
  pub design : Design
  pub given : IsDesign t design
  pub refined : (d : Design) → IsDesign t d → Refined d

-- the texts give a design with a mismatch that replays
pub record HasMismatch (t : Texts) : Type 0 where
  pub design : Design
  pub given : IsDesign t design
  pub replays : Replays design

-- the texts give the design, and these are the answers to its questions
pub record IsReported (t : Texts) (d : Design) (answers : List Answer) : Type 0 where
  pub given : IsDesign t d
  pub are : AreAnswers d (questions d) answers
