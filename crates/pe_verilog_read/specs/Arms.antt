-- What the places of the rules of a case's arms are.
use Rattle.std.specs.Prelude.{◌≡◌, ℕ, Bool, true, false, List}
use Rattle.pe_grammar.specs.declared.form.Entry.{Entry}
use Rattle.pe_grammar.specs.Places.{first_at, second_at, IsSequenceAt, IsChoiceAt, IsRepeatAt}
use Rattle.pe_verilog_read.specs.declared.statement.Arms.{Arms}
use Rattle.pe_verilog_read.specs.declared.verilog_table.TheConstants.{AT_LIST, AT_LABEL_LIST, AT_LABELLED_2, AT_DEFAULT}

-- the labels of casez, or those of case
abbrev pub labels_at : Bool → ℕ
labels_at true = AT_LABEL_LIST
labels_at false = AT_LIST

pub record AreArms (g : List Entry) (a : Arms) : Type 0 where
  pub arms : IsSequenceAt g a.arms
  pub arms_first : first_at g a.arms ≡ a.arm
  pub arms_second : second_at g a.arms ≡ a.others
  pub others : IsRepeatAt g a.others
  pub others_first : first_at g a.others ≡ a.arm
  pub arm : IsChoiceAt g a.arm
  pub arm_first : first_at g a.arm ≡ a.labelled
  pub arm_second : second_at g a.arm ≡ AT_DEFAULT
  pub labelled : IsSequenceAt g a.labelled
  pub labelled_first : first_at g a.labelled ≡ labels_at a.wild
  pub labelled_second : second_at g a.labelled ≡ AT_LABELLED_2
