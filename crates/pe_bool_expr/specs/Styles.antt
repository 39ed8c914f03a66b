-- The two styles: their tokens, their grammars and the operators of their levels.
use Rattle.std.specs.Prelude.{◌≡◌, ℕ, ◌+◌, ◌<◌, List, [], ◌∷◌, length}
use Rattle.pe_grammar.specs.declared.form.Entry.{Entry}
use Rattle.pe_grammar.specs.Places.{first_at, second_at, IsSequenceAt, IsRepeatAt}
use Rattle.pe_text.specs.declared.language.Class.{Class}
use Rattle.pe_text.specs.declared.language.Class.TheVariants.{LibertyFunction, UpfFunction}
use Rattle.pe_bool_expr.specs.declared.style.Style.{Style}
use Rattle.pe_bool_expr.specs.declared.style.Style.TheVariants.{Liberty, Upf}
use Rattle.pe_bool_expr.specs.declared.style.Operator.{Operator}
use Rattle.pe_bool_expr.specs.declared.style.Operator.TheVariants.{And, Or, Xor}
use Rattle.pe_bool_expr.specs.declared.liberty_table.TheConstants.{LIBERTY}
use Rattle.pe_bool_expr.specs.declared.upf_table.TheConstants.{UPF}

abbrev pub class_of : Style → Class
class_of Liberty = LibertyFunction
class_of Upf = UpfFunction

abbrev pub table_of : Style → List Entry
table_of Liberty = LIBERTY
table_of Upf = UPF

-- what joins the operands of each level, the weakest first: in Liberty + and |, then * and & and nothing, then ^; in UPF ||, &&, |, ^ and &
abbrev pub operators : Style → List Operator
operators Liberty = Or ∷ And ∷ Xor ∷ []
operators Upf = Or ∷ And ∷ Or ∷ Xor ∷ And ∷ []

-- a level of a grammar: a first operand, and then any number of an operator and a further operand; the operands are of the next level
pub record IsRung (g : List Entry) (level each : ℕ) : Type 0 where
  pub bound : level < length g
  pub sequence : IsSequenceAt g level
  pub «repeat» : IsRepeatAt g (second_at g level)
  pub each_sequence : IsSequenceAt g each
  pub first : first_at g level ≡ level + 1
  pub each_is : first_at g (second_at g level) ≡ each
  pub operand : second_at g each ≡ level + 1
