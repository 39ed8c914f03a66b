-- What the places of a copy of the rules of expressions are.
use Rattle.std.specs.Prelude.{◌≡◌, ℕ, zero, suc, ◌+◌, ◌<◌, List, length}
use Rattle.pe_grammar.specs.declared.form.Entry.{Entry}
use Rattle.pe_grammar.specs.Places.{first_at, second_at, IsSequenceAt, IsChoiceAt, IsRepeatAt, IsTerminalAt}
use Rattle.pe_verilog_read.specs.declared.rules.Rules.{Rules}
use Rattle.pe_verilog_read.specs.declared.rules.Scope.{Scope}
use Rattle.pe_verilog_read.specs.declared.rules.Scope.TheVariants.{Whole, Label, Constant}

-- a level of operators: an operand, and then any number of an operator and a further operand; the operands are of the next level
pub record IsRung (g : List Entry) (level : ℕ) : Type 0 where
  pub bound : level < length g
  pub sequence : IsSequenceAt g level
  pub first : first_at g level ≡ level + 1
  pub rest_bound : second_at g level < length g
  pub «repeat» : IsRepeatAt g (second_at g level)
  pub each : IsSequenceAt g (first_at g (second_at g level))
  pub operand : second_at g (first_at g (second_at g level)) ≡ level + 1

-- so many levels, from this one on
abbrev pub AreRungs : List Entry → ℕ → ℕ → Type 0
AreRungs g level zero = Unit {0}
AreRungs g level (suc n) = IsRung g level × AreRungs g (suc level) n

-- an expression, and what stands behind its weakest operators
pub record IsWhole (g : List Entry) (r : Rules) : Type 0 where
  pub ex : IsSequenceAt g r.ex
  pub ex_first : first_at g r.ex ≡ r.any
  pub ex_second : second_at g r.ex ≡ r.choice
  pub choice : IsChoiceAt g r.choice
  pub choice_first : first_at g r.choice ≡ r.chosen
  pub chosen : IsSequenceAt g r.chosen
  pub chosen_second : second_at g r.chosen ≡ r.sides
  pub sides : IsSequenceAt g r.sides
  pub sides_first : first_at g r.sides ≡ r.ex
  pub sides_second : second_at g r.sides ≡ r.colon
  pub colon : IsSequenceAt g r.colon
  pub colon_second : second_at g r.colon ≡ r.ex

-- levels of operators, and operands
pub record IsOperand (g : List Entry) (r : Rules) : Type 0 where
  pub unary_is : r.any + 9 ≡ r.unary
  pub unary : IsChoiceAt g r.unary
  pub unary_first : first_at g r.unary ≡ r.signed
  pub unary_second : second_at g r.unary ≡ r.primary
  pub signed : IsSequenceAt g r.signed
  pub signed_second : second_at g r.signed ≡ r.unary
  pub primary : IsChoiceAt g r.primary
  pub primary_first : first_at g r.primary ≡ r.group
  pub primary_second : second_at g r.primary ≡ r.primary_2
  pub primary_2 : IsChoiceAt g r.primary_2
  pub primary_2_first : first_at g r.primary_2 ≡ r.braces
  pub primary_2_second : second_at g r.primary_2 ≡ r.operand
  pub group : IsSequenceAt g r.group
  pub group_second : second_at g r.group ≡ r.group_2
  pub group_2 : IsSequenceAt g r.group_2
  pub group_2_first : first_at g r.group_2 ≡ r.ex

-- concatenations, repetitions and lists
pub record IsBraces (g : List Entry) (r : Rules) : Type 0 where
  pub braces : IsSequenceAt g r.braces
  pub braces_second : second_at g r.braces ≡ r.braces_2
  pub braces_2 : IsSequenceAt g r.braces_2
  pub braces_2_first : first_at g r.braces_2 ≡ r.ex
  pub braces_2_second : second_at g r.braces_2 ≡ r.braces_3
  pub braces_3 : IsSequenceAt g r.braces_3
  pub braces_3_first : first_at g r.braces_3 ≡ r.joined
  pub joined : IsChoiceAt g r.joined
  pub joined_first : first_at g r.joined ≡ r.others
  pub joined_second : second_at g r.joined ≡ r.inner
  pub others : IsRepeatAt g r.others
  pub others_first : first_at g r.others ≡ r.each
  pub each : IsSequenceAt g r.each
  pub each_second : second_at g r.each ≡ r.ex
  pub inner : IsSequenceAt g r.inner
  pub inner_second : second_at g r.inner ≡ r.inner_2
  pub inner_2 : IsSequenceAt g r.inner_2
  pub inner_2_first : first_at g r.inner_2 ≡ r.list
  pub list : IsSequenceAt g r.list
  pub list_first : first_at g r.list ≡ r.ex
  pub list_second : second_at g r.list ≡ r.others

-- names with an index or without
pub record IsNamed (g : List Entry) (r : Rules) : Type 0 where
  pub named : IsSequenceAt g r.named
  pub named_second : second_at g r.named ≡ r.selection
  pub selection : IsChoiceAt g r.selection
  pub selection_first : first_at g r.selection ≡ r.select
  pub select : IsSequenceAt g r.select
  pub select_second : second_at g r.select ≡ r.select_2
  pub select_2 : IsSequenceAt g r.select_2
  pub select_2_first : first_at g r.select_2 ≡ r.ex
  pub select_2_second : second_at g r.select_2 ≡ r.select_3
  pub select_3 : IsSequenceAt g r.select_3
  pub select_3_first : first_at g r.select_3 ≡ r.upto
  pub upto : IsChoiceAt g r.upto
  pub upto_first : first_at g r.upto ≡ r.colon

-- a number, or where names may stand a number or a name
pub record IsEither (g : List Entry) (r : Rules) : Type 0 where
  pub operand : IsChoiceAt g r.operand
  pub operand_second : second_at g r.operand ≡ r.named

abbrev pub HasNames : List Entry → Rules → Scope → Type 0
HasNames g r Whole = IsEither g r
HasNames g r Label = IsEither g r
HasNames g r Constant = IsTerminalAt g r.operand (second_at g r.operand)

pub record IsCopy (g : List Entry) (r : Rules) : Type 0 where
  pub whole : IsWhole g r
  pub rungs : AreRungs g r.any 9
  pub operand : IsOperand g r
  pub braces : IsBraces g r
  pub named : IsNamed g r
  pub operands : HasNames g r r.scope
