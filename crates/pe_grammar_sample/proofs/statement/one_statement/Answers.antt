use Rattle.std.proofs.Common.{refl, ap, sym, ◌∙◌}
use Rattle.pe_grammar.specs.Written.{rule}
use Rattle.pe_grammar.proofs.Same.{from_table, to_table}
use Rattle.pe_grammar.proofs.Theory.{unique}
use Rattle.pe_grammar.proofs.Test.{deterministic}
use Rattle.pe_grammar_sample.specs.Meaning.{statement_of}
use Rattle.pe_grammar_sample.specs.Statement.{statement_grammar}
use Rattle.pe_grammar_sample.specs.declared.statement_table.TheConstants.{STATEMENT, AT_STATEMENT}
use Rattle.pe_grammar_sample.proofs.statement.one_statement.Goals as goal

pub returns-clause-one : goal.returns-clause-one
returns-clause-one c = λ tokens s t p q. p.2 ∙ ap statement_of (unique STATEMENT (deterministic STATEMENT refl) AT_STATEMENT tokens p.0 q.0 p.1 q.1) ∙ sym q.2

pub returns-clause-written : goal.returns-clause-written
returns-clause-written c = λ d. (from_table STATEMENT statement_grammar refl d AT_STATEMENT (rule 0) refl, to_table STATEMENT statement_grammar refl d AT_STATEMENT (rule 0) refl)
