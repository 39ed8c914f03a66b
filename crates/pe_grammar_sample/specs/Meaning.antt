-- The statement that a derivation is.
use Rattle.std.specs.Prelude.{◌≡◌, List, [], ◌∷◌, map, Option, Some, None, Result, Ok, Err}
use Rattle.pe_grammar.specs.declared.failure.Failure.{Failure}
use Rattle.pe_grammar.specs.declared.failure.Failure.TheVariants as failure
use Rattle.pe_grammar.specs.declared.terminal.Token.{Token}
use Rattle.pe_grammar.specs.Derivation.{Derivation, leaf, pair, left, right, more, present, once}
use Rattle.pe_grammar.specs.Grammar.{Spells}
use Rattle.pe_grammar.specs.Lists.{listed}
use Rattle.pe_grammar_sample.specs.declared.statement.Setting.{Setting}
use Rattle.pe_grammar_sample.specs.declared.statement.Setting.TheVariants.{Size, Signed, Note}
use Rattle.pe_grammar_sample.specs.declared.statement.Statement.{Statement}
use Rattle.pe_grammar_sample.specs.declared.statement.Statement.TheVariants.{Block, Test, Assign, Declare, Nothing}
use Rattle.pe_grammar_sample.specs.declared.statement_table.TheConstants.{STATEMENT, AT_STATEMENT}

abbrev pub name_of : Derivation → Token
name_of (leaf t) = t
name_of _ = record { kind = 0; place = 0 }

abbrev pub names_of : Derivation → List Token
names_of d = map name_of (listed d)

abbrev pub assign_of : Derivation → Statement
assign_of (pair to (pair equals (pair names semi))) = Assign (name_of to) (names_of names)
assign_of _ = Nothing

abbrev pub setting_of : Derivation → Setting
setting_of (left (pair size name)) = Size (name_of name)
setting_of (right (right (pair note name))) = Note (name_of name)
setting_of _ = Signed

abbrev pub each_setting : Derivation → List Setting
each_setting (more d e) = setting_of d ∷ each_setting e
each_setting _ = []

abbrev pub settings_of : Derivation → List Setting
settings_of (once d) = each_setting d
settings_of _ = []

abbrev pub declare_of : Derivation → Statement
declare_of (pair declare (pair name (pair settings semi))) = Declare (name_of name) (settings_of settings)
declare_of _ = Nothing

abbrev mutual
  pub statement_of : Derivation → Statement
  statement_of (left d) = block_of d
  statement_of (right (left d)) = test_of d
  statement_of (right (right (left d))) = assign_of d
  statement_of (right (right (right (left d)))) = declare_of d
  statement_of _ = Nothing

  pub block_of : Derivation → Statement
  block_of (pair begin (pair all end)) = Block (statements_of all)
  block_of _ = Nothing

  pub statements_of : Derivation → List Statement
  statements_of (more d e) = statement_of d ∷ statements_of e
  statements_of _ = []

  pub test_of : Derivation → Statement
  test_of (pair word (pair before (pair name (pair after (pair then tail))))) = Test (name_of name) (statement_of then) (otherwise_of tail)
  test_of _ = Nothing

  pub otherwise_of : Derivation → Option Statement
  otherwise_of (present t d) = Some (statement_of d)
  otherwise_of _ = None

-- the tokens spell the statement
abbrev pub IsWritten : Statement → List Token → Type 0
IsWritten s tokens = (d : Derivation) × Spells STATEMENT AT_STATEMENT tokens d × (s ≡ statement_of d)

-- the answer is s, unless memory ran out
abbrev pub IsAnswered : Statement → Result Statement Failure → Type 0
IsAnswered s (Ok t) = t ≡ s
IsAnswered s (Err failure.Memory) = Unit {0}
IsAnswered s (Err (failure.Syntax at)) = ⊥
