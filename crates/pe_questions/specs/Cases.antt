-- Cases, as the program keeps them: an assignment with the states and the two settled maps that it gives.
use Rattle.std.specs.Prelude.{◌≡◌, ℕ, Bool, true, false, not, ◌&&◌, List, map, slice_index_or, Option, Some, None}
use Rattle.std.specs.List.{All}
use Rattle.pe_base.specs.declared.value.Val.{Val}
use Rattle.pe_base.specs.declared.value.Val.TheVariants.{Zero, One, Corrupt}
use Rattle.pe_base.specs.declared.text.Step.{Step}
use Rattle.pe_supply.specs.Rows.{row_holds}
use Rattle.pe_design.specs.declared.design.Design.{Design}
use Rattle.pe_design.specs.Refined.{IsCycle}
use Rattle.pe_questions.specs.declared.cases.Case.{Case}
use Rattle.pe_questions.specs.declared.answer.Answer.{Answer}
use Rattle.pe_questions.specs.declared.answer.Answer.TheVariants.{Holds, Mismatch, Sample, Empty}
use Rattle.pe_questions.specs.Assignments.{roots_of, inputs_of}
use Rattle.pe_questions.specs.Questions.{levels_after}

abbrev pub IsCase : Design → Case → Type 0
IsCase d c = IsCycle d (roots_of d c.bits) (inputs_of d c.bits) c.states c.rtl.items c.net.items

-- the cases of these assignments
pub record AreCases (d : Design) (list : List (List Bool)) (cases : List Case) : Type 0 where
  pub each : All (IsCase d) cases
  pub are : map (λ c. c.bits) cases ≡ list

-- the netlist's value may stand for the RTL's
abbrev pub is_refined : Val → Val → Bool
is_refined n Corrupt = true
is_refined Zero Zero = true
is_refined One One = true
is_refined _ _ = false

abbrev pub value_at : List Val → ℕ → Val
value_at values place = slice_index_or values place Corrupt

-- the step permits the case
abbrev pub permits : Design → Step → Case → Bool
permits d step c = row_holds (levels_after d step) d.supplies.table c.states

-- and an output with these places does not refine in it
abbrev pub refutes : Design → Step → ℕ → ℕ → Case → Bool
refutes d step rtl net c = permits d step c && not (is_refined (value_at c.net.items net) (value_at c.rtl.items rtl))

-- what a case that refutes is told as, and what none is
abbrev pub told : ℕ → ℕ → Option Case → Answer
told rtl net None = Holds
told rtl net (Some c) = Mismatch c.bits (value_at c.rtl.items rtl) (value_at c.net.items net)

abbrev pub sampled : Option Case → Answer
sampled None = Empty
sampled (Some c) = Sample c.bits

-- a mismatch of these bits, whose values are those that the two settled maps of their cycle have at these places
pub record IsReplayed (d : Design) (rtl net : ℕ) (bits : List Bool) (answer : Answer) : Type 0 where
  pub states : List Bool
  pub rtl_map : List Val
  pub net_map : List Val
  pub cycle : IsCycle d (roots_of d bits) (inputs_of d bits) states rtl_map net_map
  pub is : answer ≡ Mismatch bits (value_at rtl_map rtl) (value_at net_map net)
