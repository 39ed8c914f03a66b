-- The answers to questions, by all assignments in counting order.
use Rattle.std.specs.Prelude.{◌≡◌, ℕ, Bool, true, false, List, [], ◌∷◌, ◌++◌, count_by}
use Rattle.std.specs.List.{All}
use Rattle.pe_base.specs.declared.value.Val.{Val}
use Rattle.pe_base.specs.declared.text.Step.{Step}
use Rattle.pe_base.specs.Values.{Refines}
use Rattle.pe_nets.specs.Nets.{name_at}
use Rattle.pe_supply.specs.Rows.{row_holds}
use Rattle.pe_assigns.specs.Form.{output_names}
use Rattle.pe_design.specs.declared.design.Design.{Design}
use Rattle.pe_design.specs.Refined.{IsCycle, rtl_value, net_value}
use Rattle.pe_questions.specs.declared.question.Question.{Question}
use Rattle.pe_questions.specs.declared.question.Point.{Point}
use Rattle.pe_questions.specs.declared.question.Point.TheVariants.{Output, Live}
use Rattle.pe_questions.specs.declared.answer.Answer.{Answer}
use Rattle.pe_questions.specs.declared.answer.Answer.TheVariants.{Holds, Mismatch, Sample, Empty}
use Rattle.pe_questions.specs.Assignments.{roots_of, inputs_of, all_assignments}
use Rattle.pe_questions.specs.Questions.{levels_after}

-- the assignment gives a cycle that the step permits
pub record IsPermitted (d : Design) (step : Step) (bits : List Bool) : Type 0 where
  pub states : List Bool
  pub rtl_map : List Val
  pub net_map : List Val
  pub cycle : IsCycle d (roots_of d bits) (inputs_of d bits) states rtl_map net_map
  pub holds : row_holds (levels_after d step) d.supplies.table states ≡ true

-- it gives one in which the two sides have these values at the output, and the netlist's does not refine the RTL's
pub record Refutes (d : Design) (step : Step) (output : List ℕ) (bits : List Bool) (rtl net : Val) : Type 0 where
  pub permitted : IsPermitted d step bits
  pub is_rtl : rtl ≡ rtl_value d permitted.rtl_map output
  pub is_net : net ≡ net_value d permitted.net_map output
  pub differs : Refines net rtl → ⊥

-- it refutes the output with some values
pub record DoesRefute (d : Design) (step : Step) (output : List ℕ) (bits : List Bool) : Type 0 where
  pub rtl : Val
  pub net : Val
  pub refutes : Refutes d step output bits rtl net

-- none of a list has the property
abbrev pub HasNone : (List Bool → Type 0) → List (List Bool) → Type 0
HasNone P list = All (λ bits. P bits → ⊥) list

-- the bits are the first of a list with the property
pub record IsFirst (P : List Bool → Type 0) (list : List (List Bool)) (bits : List Bool) : Type 0 where
  pub before : List (List Bool)
  pub after : List (List Bool)
  pub splits : list ≡ before ++ bits ∷ after
  pub none : HasNone P before
  pub has : P bits

-- an answer to whether an output refines
abbrev pub IsOutputAnswer : Design → Step → List ℕ → Answer → Type 0
IsOutputAnswer d step output Holds = HasNone (DoesRefute d step output) (all_assignments d)
IsOutputAnswer d step output (Mismatch bits rtl net) = Refutes d step output bits rtl net × IsFirst (DoesRefute d step output) (all_assignments d) bits
IsOutputAnswer d step output (Sample bits) = ⊥
IsOutputAnswer d step output Empty = ⊥

-- an answer to whether there is any cycle
abbrev pub IsLiveAnswer : Design → Step → Answer → Type 0
IsLiveAnswer d step (Sample bits) = IsFirst (IsPermitted d step) (all_assignments d) bits
IsLiveAnswer d step Empty = HasNone (IsPermitted d step) (all_assignments d)
IsLiveAnswer d step Holds = ⊥
IsLiveAnswer d step (Mismatch bits rtl net) = ⊥

abbrev pub IsPointAnswer : Design → Step → Point → Answer → Type 0
IsPointAnswer d step (Output k) answer = IsOutputAnswer d step (name_at (output_names d.rtl) k) answer
IsPointAnswer d step Live answer = IsLiveAnswer d step answer

-- the answer to a question
abbrev pub IsAnswer : Design → Question → Answer → Type 0
IsAnswer d question answer = IsPointAnswer d question.step question.point answer

-- one for each question, in their order
abbrev pub AreAnswers : Design → List Question → List Answer → Type 0
AreAnswers d [] [] = Unit {0}
AreAnswers d (question ∷ questions) (answer ∷ answers) = IsAnswer d question answer × AreAnswers d questions answers
AreAnswers d _ _ = ⊥

abbrev pub is_mismatch : Answer → Bool
is_mismatch (Mismatch bits rtl net) = true
is_mismatch _ = false

-- how many questions have a mismatch for an answer
abbrev pub mismatched : List Answer → ℕ
mismatched answers = count_by is_mismatch answers
